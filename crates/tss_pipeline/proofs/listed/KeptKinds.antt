-- An event that leaves alone what the events of a kind rest on leaves as many of them that may happen.
use Rattle.std.proofs.Common.{◌≡◌, ℕ, Bool, true, false, cond, List, [], ◌∷◌, map, length, Option, Some, None, refl, sym, ap, ◌∙◌}
use Rattle.std.specs.Prelude.{filter, is_some, ◌&&◌, ◌||◌}
use Rattle.std.specs.List.{range_with_len}
use Rattle.std.specs.FinMap.{get, keys}
use Rattle.tss_base.specs.declared.operand.OpName.{OpName}
use Rattle.tss_base.specs.declared.operand.Operand.{Operand}
use Rattle.tss_base.specs.declared.operand.Mode.{Mode}
use Rattle.tss_base.specs.declared.operand.Mode.TheVariants.{Input, Output, Inout}
use Rattle.tss_base.specs.declared.machine.Machine.{Machine}
use Rattle.tss_base.specs.declared.event.Event.{Event}
use Rattle.tss_base.specs.declared.event.Event.TheVariants as event
use Rattle.tss_locality.specs.Leaves.{changes}
use Rattle.tss_locality.proofs.LeftFields.{Leaves-after_event, left_entries, left_places, left_buffers, left_versions, left_queue, left_workers, left_copies}
use Rattle.tss_protocol.specs.Names.{bank_of}
use Rattle.tss_protocol.specs.Mail.{OpenContents, GoneContents, Mail, Ack, posted_all, taken}
use Rattle.tss_protocol.specs.State.{State, Version, Entry}
use Rattle.tss_protocol.specs.Renaming.{can_decode, sent_by_decode, live_message}
use Rattle.tss_protocol.specs.Buffers.{can_retire_from}
use Rattle.tss_protocol.specs.Workers.{can_start, can_exec, can_finish}
use Rattle.tss_protocol.proofs.FrontLemmas.{Front, KeepsFront, KeepsFront-after_event}
use Rattle.tss_protocol.specs.UnitMachine.{is_enabled, after_event, can_decode_message, can_open_message, can_use_message, can_retire, without, decode_message_taken, gone_message_taken}
use Rattle.tss_control.proofs.rounds.EntriesQuiet.{quiet_objects}
use Rattle.tss_mail.specs.declared.kind.Kind.{Kind}
use Rattle.tss_mail.specs.declared.kind.Kind.TheVariants as kind
use Rattle.tss_pipeline.specs.declared.enabling.Source.{Source}
use Rattle.tss_pipeline.specs.declared.enabling.Source.TheVariants as source
use Rattle.tss_pipeline.specs.declared.units.Units.{Units}
use Rattle.tss_pipeline.specs.State.{state_of}
use Rattle.tss_pipeline.specs.Enabling.{enabled_of_kind, touches_decodes, touches_retires, touches_letters, touches}
use Rattle.tss_pipeline.specs.Keeping.{count_enabled, WereEnabled}

-- the same pass two tests that agree on what is listed
filter_alike : {K X : Type 0} (f : K → X) (p q : X → Bool) → ((k : K) → p (f k) ≡ q (f k)) → (ks : List K)
    → filter p (map f ks) ≡ filter q (map f ks)
filter_alike f p q same [] = refl
filter_alike f p q same (k ∷ ks) =
    λ i. cond (same k i) (f k ∷ filter_alike f p q same ks i) (filter_alike f p q same ks i)

-- what messages and their kinds rest on is the same in both states
pub record AreAlike (S T : State) : Type 0 where
  pub mail : T.mail ≡ S.mail
  pub entries : T.entries ≡ S.entries
  pub places : T.places ≡ S.places
  pub buffers : T.buffers ≡ S.buffers
  pub versions : T.versions ≡ S.versions
  pub copies : T.copies ≡ S.copies

-- the state with the parts of another on which no message rests
abbrev beside : State → State → State
beside S T = record T {
  mail = S.mail;
  entries = S.entries;
  places = S.places;
  buffers = S.buffers;
  versions = S.versions;
  copies = S.copies;
}

module _ (m : Machine) (S T : State) where
  decode_alike : (o : OpName) (x : Option Operand) → can_decode_message m (beside S T) o x ≡ can_decode_message m S o x
  decode_alike o None = refl
  decode_alike o (Some x) = refl

  open_alike : (x : Option OpenContents) → can_open_message (beside S T) x ≡ can_open_message S x
  open_alike None = refl
  open_alike (Some x) = refl

  use_alike : (x : Option OpName) → can_use_message (beside S T) x ≡ can_use_message S x
  use_alike None = refl
  use_alike (Some x) = refl

  retire_alike : (x : Option Version) → can_retire m (beside S T) x ≡ can_retire m S x
  retire_alike None = refl
  retire_alike (Some x) = refl

  kind_alike : (k : Kind)
      → enabled_of_kind m (beside S T) (source.Letters k) ≡ enabled_of_kind m S (source.Letters k)
  unfolding is_enabled
  kind_alike kind.Decode = filter_alike event.Decode _ _ (λ o. decode_alike o (get S.mail.decodes o)) (keys S.mail.decodes)
  kind_alike kind.Ack = filter_alike event.Ack _ _ (λ o. refl) (keys S.mail.acks)
  kind_alike kind.Open = filter_alike event.Open _ _ (λ o. open_alike (get S.mail.opens o)) (keys S.mail.opens)
  kind_alike kind.Use = filter_alike event.Use _ _ (λ o. use_alike (get S.mail.uses o)) (keys S.mail.uses)
  kind_alike kind.Ready = filter_alike event.Ready _ _ (λ o. refl) (keys S.mail.readies)
  kind_alike kind.Link = filter_alike event.Link _ _ (λ o. refl) (keys S.mail.links)
  kind_alike kind.Release = filter_alike event.Release _ _ (λ o. refl) (keys S.mail.releases)
  kind_alike kind.Bye = filter_alike event.Bye _ _ (λ o. refl) (keys S.mail.byes)
  kind_alike kind.Idle = filter_alike event.Idle _ _ (λ o. refl) (keys S.mail.idles)
  kind_alike kind.Nack = filter_alike event.Nack _ _ (λ o. refl) (keys S.mail.nacks)
  kind_alike kind.Retire =
      filter_alike event.Retire _ _ (λ v. ap (λ b. is_some (get S.mail.retires v) && b) (retire_alike (get S.versions v)))
      (keys S.mail.retires)
  kind_alike kind.Gone = filter_alike event.Gone _ _ (λ o. refl) (keys S.mail.gones)

  -- a state is the other beside its own parts
  alike_is : AreAlike S T → T ≡ beside S T
  alike_is a = λ i. record T {
    mail = a.mail i;
    entries = a.entries i;
    places = a.places i;
    buffers = a.buffers i;
    versions = a.versions i;
    copies = a.copies i;
  }

not_both : true ≡ false → ⊥
not_both e = cc

module _ (m : Machine) (S : State) where
  -- events without messages
  no_message : (e : Event) → (changes e).mail ≡ false → AreAlike S (after_event m S e)
  no_message event.Main left = record {
    mail = λ j. (Leaves-after_event m S event.Main j).mail;
    entries = λ j. (Leaves-after_event m S event.Main j).entries;
    places = λ j. (Leaves-after_event m S event.Main j).places;
    buffers = λ j. (Leaves-after_event m S event.Main j).buffers;
    versions = λ j. (Leaves-after_event m S event.Main j).versions;
    copies = λ j. (Leaves-after_event m S event.Main j).copies;
  }
  no_message (event.Start w) left = record {
    mail = λ j. (Leaves-after_event m S (event.Start w) j).mail;
    entries = λ j. (Leaves-after_event m S (event.Start w) j).entries;
    places = λ j. (Leaves-after_event m S (event.Start w) j).places;
    buffers = λ j. (Leaves-after_event m S (event.Start w) j).buffers;
    versions = λ j. (Leaves-after_event m S (event.Start w) j).versions;
    copies = λ j. (Leaves-after_event m S (event.Start w) j).copies;
  }
  no_message (event.Exec w) left = record {
    mail = λ j. (Leaves-after_event m S (event.Exec w) j).mail;
    entries = λ j. (Leaves-after_event m S (event.Exec w) j).entries;
    places = λ j. (Leaves-after_event m S (event.Exec w) j).places;
    buffers = λ j. (Leaves-after_event m S (event.Exec w) j).buffers;
    versions = λ j. (Leaves-after_event m S (event.Exec w) j).versions;
    copies = λ j. (Leaves-after_event m S (event.Exec w) j).copies;
  }
  no_message event.Take left = absurd (not_both left)
  no_message (event.Decode o) left = absurd (not_both left)
  no_message (event.Ack o) left = absurd (not_both left)
  no_message (event.Open o) left = absurd (not_both left)
  no_message (event.Use o) left = absurd (not_both left)
  no_message (event.Ready o) left = absurd (not_both left)
  no_message (event.Link o) left = absurd (not_both left)
  no_message (event.Finish w) left = absurd (not_both left)
  no_message (event.Release o) left = absurd (not_both left)
  no_message (event.Bye o) left = absurd (not_both left)
  no_message (event.Idle v) left = absurd (not_both left)
  no_message (event.Nack v) left = absurd (not_both left)
  no_message (event.Retire v) left = absurd (not_both left)
  no_message (event.Copy b) left = absurd (not_both left)
  no_message (event.Gone v) left = absurd (not_both left)

  letters_left : (e : Event) → (changes e).mail ≡ false → (k : Kind)
      → enabled_of_kind m (after_event m S e) (source.Letters k) ≡ enabled_of_kind m S (source.Letters k)
  letters_left e left k =
      ap (λ T. enabled_of_kind m T (source.Letters k)) (alike_is m S (after_event m S e) (no_message e left))
      ∙ kind_alike m S (after_event m S e) k

-- ---- decodes, opens and uses rest on less

module _ (m : Machine) (S T : State) where
  module _ (decodes : T.mail.decodes ≡ S.mail.decodes) (entries : T.entries ≡ S.entries) (places : T.places ≡ S.places)
      (buffers : T.buffers ≡ S.buffers) where
    decode_by : (o : OpName) (x : Option Operand) → can_decode_message m T o x ≡ can_decode_message m S o x
    decode_by o None = refl
    decode_by o (Some x) =
        λ i. can_decode m.sizes (record { entries = entries i; places = places i; buffers = buffers i }) (decodes i) o x

    decodes_alike : enabled_of_kind m T (source.Letters kind.Decode) ≡ enabled_of_kind m S (source.Letters kind.Decode)
    unfolding is_enabled
    decodes_alike =
        filter_alike event.Decode (is_enabled m T) (is_enabled m S)
        (λ o. ap (λ ds. can_decode_message m T o (get ds o)) decodes ∙ decode_by o (get S.mail.decodes o))
        (keys T.mail.decodes)
        ∙ ap (λ ds. filter (is_enabled m S) (map event.Decode (keys ds))) decodes

  module _ (retires : T.mail.retires ≡ S.mail.retires) (versions : T.versions ≡ S.versions)
      (copies : T.copies ≡ S.copies) where
    retire_by : (x : Option Version) → can_retire m T x ≡ can_retire m S x
    retire_by None = refl
    retire_by (Some x) = ap (λ cs. can_retire_from x.storage (get cs (bank_of m.sizes x.object))) copies

    retire_same : (v : OpName) → can_retire m T (get T.versions v) ≡ can_retire m S (get S.versions v)
    retire_same v = ap (λ vs. can_retire m T (get vs v)) versions ∙ retire_by (get S.versions v)

    retires_alike : enabled_of_kind m T (source.Letters kind.Retire) ≡ enabled_of_kind m S (source.Letters kind.Retire)
    unfolding is_enabled
    retires_alike =
        filter_alike event.Retire (is_enabled m T) (is_enabled m S)
        (λ v i. is_some (get (retires i) v) && retire_same v i) (keys T.mail.retires)
        ∙ ap (λ rs. filter (is_enabled m S) (map event.Retire (keys rs))) retires

module _ (mail : Mail) (o : OpName) (p : Operand) where
  -- a decode sends no retire
  live_retires : (e : Entry) (mode : Mode) → (posted_all mail (live_message o p e mode ∷ Ack o ∷ [])).retires ≡ mail.retires
  live_retires e Input = refl
  live_retires e Output = refl
  live_retires e Inout = refl

  decode_retires : (e : Option Entry) → (posted_all mail (sent_by_decode o p e)).retires ≡ mail.retires
  decode_retires None = refl
  decode_retires (Some e) = live_retires e p.mode

module _ (m : Machine) (S : State) where
  decoded_retires : (o : OpName) (p : Option Operand)
      → (decode_message_taken m (without S (event.Decode o)) o p).mail.retires ≡ S.mail.retires
  decoded_retires o None = refl
  decoded_retires o (Some p) = decode_retires (taken S.mail (event.Decode o)) o p (get S.entries p.object.base)

  gone_retires : (v : OpName) (g : Option GoneContents)
      → (gone_message_taken (without S (event.Gone v)) v g).mail.retires ≡ S.mail.retires
  gone_retires v None = refl
  gone_retires v (Some g) = refl

  -- an event that leaves retires alone
  retires_left : (e : Event) → touches_retires e ≡ false → (after_event m S e).mail.retires ≡ S.mail.retires
  unfolding after_event
  retires_left event.Main left = λ j. (Leaves-after_event m S event.Main j).mail.retires
  retires_left event.Take left = (quiet_objects m S event.Take tt).retires
  retires_left (event.Decode o) left = decoded_retires o (get S.mail.decodes o)
  retires_left (event.Ack o) left = (quiet_objects m S (event.Ack o) tt).retires
  retires_left (event.Open o) left = absurd (not_both left)
  retires_left (event.Use o) left = absurd (not_both left)
  retires_left (event.Ready o) left = (quiet_objects m S (event.Ready o) tt).retires
  retires_left (event.Link o) left = (quiet_objects m S (event.Link o) tt).retires
  retires_left (event.Start w) left = (quiet_objects m S (event.Start w) tt).retires
  retires_left (event.Exec w) left = (quiet_objects m S (event.Exec w) tt).retires
  retires_left (event.Finish w) left = (quiet_objects m S (event.Finish w) tt).retires
  retires_left (event.Release o) left = absurd (not_both left)
  retires_left (event.Bye o) left = (quiet_objects m S (event.Bye o) tt).retires
  retires_left (event.Idle v) left = absurd (not_both left)
  retires_left (event.Nack v) left = absurd (not_both left)
  retires_left (event.Retire v) left = absurd (not_both left)
  retires_left (event.Copy b) left = absurd (not_both left)
  retires_left (event.Gone v) left = gone_retires v (get S.mail.gones v)

  retires_fields : (e : Event) → touches_retires e ≡ false
      → ((changes e).versions ≡ false) × ((changes e).copies ≡ false)
  retires_fields event.Main left = (refl, refl)
  retires_fields event.Take left = (refl, refl)
  retires_fields (event.Decode o) left = (refl, refl)
  retires_fields (event.Ack o) left = (refl, refl)
  retires_fields (event.Open o) left = absurd (not_both left)
  retires_fields (event.Use o) left = absurd (not_both left)
  retires_fields (event.Ready o) left = (refl, refl)
  retires_fields (event.Link o) left = (refl, refl)
  retires_fields (event.Start w) left = (refl, refl)
  retires_fields (event.Exec w) left = (refl, refl)
  retires_fields (event.Finish w) left = (refl, refl)
  retires_fields (event.Release o) left = absurd (not_both left)
  retires_fields (event.Bye o) left = (refl, refl)
  retires_fields (event.Idle v) left = absurd (not_both left)
  retires_fields (event.Nack v) left = absurd (not_both left)
  retires_fields (event.Retire v) left = absurd (not_both left)
  retires_fields (event.Copy b) left = absurd (not_both left)
  retires_fields (event.Gone v) left = (refl, refl)

  front_decodes : (T : State) → KeepsFront S T → T.mail.decodes ≡ S.mail.decodes
  front_decodes T k = ap (λ (f : Front). f.decodes) k.front

  ack_decodes : (o : OpName) → (after_event m S (event.Ack o)).mail.decodes ≡ S.mail.decodes
  unfolding after_event
  ack_decodes o = refl

  -- one that leaves decodes alone
  decodes_left : (e : Event) → touches_decodes e ≡ false → (after_event m S e).mail.decodes ≡ S.mail.decodes
  decodes_left event.Main left = λ j. (Leaves-after_event m S event.Main j).mail.decodes
  decodes_left event.Take left = absurd (not_both left)
  decodes_left (event.Decode o) left = absurd (not_both left)
  decodes_left (event.Ack o) left = ack_decodes o
  decodes_left (event.Open o) left = front_decodes _ (KeepsFront-after_event m S (event.Open o) refl)
  decodes_left (event.Use o) left = front_decodes _ (KeepsFront-after_event m S (event.Use o) refl)
  decodes_left (event.Ready o) left = front_decodes _ (KeepsFront-after_event m S (event.Ready o) refl)
  decodes_left (event.Link o) left = front_decodes _ (KeepsFront-after_event m S (event.Link o) refl)
  decodes_left (event.Start w) left = front_decodes _ (KeepsFront-after_event m S (event.Start w) refl)
  decodes_left (event.Exec w) left = front_decodes _ (KeepsFront-after_event m S (event.Exec w) refl)
  decodes_left (event.Finish w) left = front_decodes _ (KeepsFront-after_event m S (event.Finish w) refl)
  decodes_left (event.Release o) left = front_decodes _ (KeepsFront-after_event m S (event.Release o) refl)
  decodes_left (event.Bye o) left = front_decodes _ (KeepsFront-after_event m S (event.Bye o) refl)
  decodes_left (event.Idle v) left = absurd (not_both left)
  decodes_left (event.Nack v) left = front_decodes _ (KeepsFront-after_event m S (event.Nack v) refl)
  decodes_left (event.Retire v) left = front_decodes _ (KeepsFront-after_event m S (event.Retire v) refl)
  decodes_left (event.Copy b) left = front_decodes _ (KeepsFront-after_event m S (event.Copy b) refl)
  decodes_left (event.Gone v) left = absurd (not_both left)

  -- it leaves the tables alone
  tables_left : (e : Event) → touches_decodes e ≡ false
      → ((changes e).entries ≡ false) × ((changes e).places ≡ false) × ((changes e).buffers ≡ false)
  tables_left event.Main left = (refl, refl, refl)
  tables_left event.Take left = (refl, refl, refl)
  tables_left (event.Decode o) left = (left, left, left)
  tables_left (event.Ack o) left = (refl, refl, refl)
  tables_left (event.Open o) left = (refl, refl, refl)
  tables_left (event.Use o) left = (refl, refl, refl)
  tables_left (event.Ready o) left = (refl, refl, refl)
  tables_left (event.Link o) left = (refl, refl, refl)
  tables_left (event.Start w) left = (refl, refl, refl)
  tables_left (event.Exec w) left = (refl, refl, refl)
  tables_left (event.Finish w) left = (refl, refl, refl)
  tables_left (event.Release o) left = (refl, refl, refl)
  tables_left (event.Bye o) left = (refl, refl, refl)
  tables_left (event.Idle v) left = (left, refl, refl)
  tables_left (event.Nack v) left = (refl, refl, refl)
  tables_left (event.Retire v) left = (refl, refl, refl)
  tables_left (event.Copy b) left = (refl, refl, refl)
  tables_left (event.Gone v) left = (left, left, left)

  kept_decodes : (e : Event) → touches_decodes e ≡ false
      → enabled_of_kind m (after_event m S e) (source.Letters kind.Decode) ≡ enabled_of_kind m S (source.Letters kind.Decode)
  kept_decodes e left =
      let t = tables_left e left in
      decodes_alike m S (after_event m S e) (decodes_left e left)
      (left_entries m S e t.0) (left_places m S e t.1) (left_buffers m S e t.2)

  -- messages of a kind that isn't touched
  kept_letters : (k : Kind) (e : Event) → touches_letters k e ≡ false
      → enabled_of_kind m (after_event m S e) (source.Letters k) ≡ enabled_of_kind m S (source.Letters k)
  kept_letters kind.Decode e left = kept_decodes e left
  kept_letters kind.Ack e left = letters_left m S e left kind.Ack
  kept_letters kind.Open e left = letters_left m S e left kind.Open
  kept_letters kind.Use e left = letters_left m S e left kind.Use
  kept_letters kind.Ready e left = letters_left m S e left kind.Ready
  kept_letters kind.Link e left = letters_left m S e left kind.Link
  kept_letters kind.Release e left = letters_left m S e left kind.Release
  kept_letters kind.Bye e left = letters_left m S e left kind.Bye
  kept_letters kind.Idle e left = letters_left m S e left kind.Idle
  kept_letters kind.Nack e left = letters_left m S e left kind.Nack
  kept_letters kind.Retire e left =
      let t = retires_fields e left in
      retires_alike m S (after_event m S e) (retires_left e left) (left_versions m S e t.0) (left_copies m S e t.1)
  kept_letters kind.Gone e left = letters_left m S e left kind.Gone

module _ (m : Machine) (S T : State) where
  starts_alike : T.workers ≡ S.workers → T.queue ≡ S.queue
      → enabled_of_kind m T source.Start ≡ enabled_of_kind m S source.Start
  unfolding is_enabled
  starts_alike workers queue =
      filter_alike event.Start (is_enabled m T) (is_enabled m S)
      (λ w i. can_start m.sizes.workers w (get (workers i) w) (queue i)) (range_with_len 0 m.sizes.workers)

  execs_alike : T.workers ≡ S.workers → enabled_of_kind m T source.Exec ≡ enabled_of_kind m S source.Exec
  unfolding is_enabled
  execs_alike workers =
      filter_alike event.Exec (is_enabled m T) (is_enabled m S) (λ w i. can_exec (get (workers i) w))
      (range_with_len 0 m.sizes.workers)

  finishes_alike : T.workers ≡ S.workers → enabled_of_kind m T source.Finish ≡ enabled_of_kind m S source.Finish
  unfolding is_enabled
  finishes_alike workers =
      filter_alike event.Finish (is_enabled m T) (is_enabled m S) (λ w i. can_finish (get (workers i) w))
      (range_with_len 0 m.sizes.workers)

  copies_alike : T.copies ≡ S.copies → enabled_of_kind m T source.Copy ≡ enabled_of_kind m S source.Copy
  unfolding is_enabled
  copies_alike copies =
      filter_alike event.Copy (is_enabled m T) (is_enabled m S) (λ b i. is_some (get (copies i) b))
      (range_with_len 0 m.sizes.banks)

neither : (a b : Bool) → (a || b) ≡ false → (a ≡ false) × (b ≡ false)
neither true b e = absurd (not_both e)
neither false b e = (refl, e)

module _ (m : Machine) (S : State) where
  -- what isn't touched stays
  kept_kind : (s : Source) (e : Event) → touches s e ≡ false
      → enabled_of_kind m (after_event m S e) s ≡ enabled_of_kind m S s
  kept_kind source.Main e left = absurd (not_both left)
  kept_kind source.Take e left = absurd (not_both left)
  kept_kind (source.Letters k) e left = kept_letters m S k e left
  kept_kind source.Start e left =
      let t = neither (changes e).workers (changes e).queue left in
      starts_alike m S (after_event m S e) (left_workers m S e t.0) (left_queue m S e t.1)
  kept_kind source.Exec e left = execs_alike m S (after_event m S e) (left_workers m S e left)
  kept_kind source.Finish e left = finishes_alike m S (after_event m S e) (left_workers m S e left)
  kept_kind source.Copy e left = copies_alike m S (after_event m S e) (left_copies m S e left)

-- as many as before
pub kept_count : (e : Event) (u : Units) (s : Source) (count : ℕ) → WereEnabled e u s count → touches s e ≡ false
    → count ≡ count_enabled u s
kept_count e u s count were left =
    were.same
    ∙ ap (λ (es : List Event). length es) (sym (kept_kind were.old.machine (state_of were.old) s e left))
    ∙ (λ i. length (enabled_of_kind (sym were.does.machine i) (sym were.does.state i) s))
