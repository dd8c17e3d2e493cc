-- The messages of the gateway, the stations, the renaming tables and the copy engines may be posted.
use Rattle.std.proofs.Common.{◌≡◌, ◌≢◌, ℕ, suc, ◌≤◌, Bool, true, false, List, [], ◌∷◌, ◌++◌, Option, Some, None, refl}
use Rattle.std.proofs.Common.{sym, ap, ◌∙◌, subst, inl, inr, arith}
use Rattle.std.specs.Prelude.{◌||◌, option_map, slice_get}
use Rattle.std.specs.FinMap.{get, remove}
use Rattle.std.proofs.lemmas.Option.{none-some, same_Some}
use Rattle.tss_base.specs.declared.operand.OpName.{OpName}
use Rattle.tss_base.specs.declared.operand.Mode.{Mode}
use Rattle.tss_base.specs.declared.operand.Mode.TheVariants.{Input, Output, Inout}
use Rattle.tss_base.specs.declared.operand.Operand.{Operand}
use Rattle.tss_base.specs.declared.operand.Task.{Task}
use Rattle.tss_base.specs.declared.machine.Machine.{Machine}
use Rattle.tss_base.specs.declared.event.Event.TheVariants as event
use Rattle.tss_base.specs.declared.marks.LinkState.{LinkState}
use Rattle.tss_base.specs.declared.marks.LinkState.TheVariants as link
use Rattle.tss_base.specs.Names.{Named}
use Rattle.tss_maps.proofs.Keys.{name_order, decide_key}
use Rattle.tss_maps.proofs.Changes.{at_removed, beside_removed, beside_inserted, decide_get}
use Rattle.tss_model.specs.Access.{operands_of}
use Rattle.tss_protocol.specs.Names.{operand_name}
use Rattle.tss_protocol.specs.Mail.{Source, IdleContents, Decode, Ack, Open, Use, Ready, Release, Nack, Retire, Gone}
use Rattle.tss_protocol.specs.Mail.{Mail, posted, taken}
use Rattle.tss_protocol.specs.State.{State, OperandState, Flying, Busy, Entry, CopyState}
use Rattle.tss_protocol.specs.Gateway.{decodes_from, sent_by_take}
use Rattle.tss_protocol.specs.Stations.{sent_by_ready, sent_by_link, woken_by, woken_in, after_ready, linked_by}
use Rattle.tss_protocol.specs.Stations.{linked_in, after_link, release_of, releases_from, finished_in}
use Rattle.tss_protocol.specs.Stations.{flight_after_finish}
use Rattle.tss_protocol.specs.Renaming.{sent_by_decode, live_message, after_decode, may_retire, idle_by, after_idle}
use Rattle.tss_protocol.specs.Buffers.{is_last_piece, sent_by_copy}
use Rattle.tss_protocol.specs.UnitMachine.{tables_of}
use Rattle.tss_phases.specs.Phase.{look_ups}
use Rattle.tss_phases.specs.Orderly.{TellWaiting}
use Rattle.tss_phases.proofs.Received.{own_name}
use Rattle.tss_phases.proofs.Shown.{ready_shows}
use Rattle.tss_phases.proofs.Records.{operand_in}
use Rattle.tss_phases.proofs.OrderlyLemmas.{releasing_stands}
use Rattle.tss_names.specs.Tasks.{taken_by}
use Rattle.tss_control.proofs.holders.KeepsOrder.{keeps_order}
use Rattle.tss_control.proofs.rounds.Facts.{Facts}
use Rattle.tss_control.proofs.rounds.EntriesNames.{no_open, no_use}
use Rattle.tss_conditions.specs.Posting.{ArePostable}
use Rattle.tss_conditions.proofs.PostingVersions.{waiting_untold}

-- ---- lists of names that rise

-- names of places that aren't equal
other_place : (task a b : ℕ) → suc a ≤ b → operand_name task b ≢ operand_name task a
other_place task a b h e = let k = ap (λ (o : OpName). o.place) e in omega (arith, h, k)

-- decodes from a place on
postable_decodes : (task place : ℕ) (os : List Operand) (m : Mail)
    → ((k : ℕ) → place ≤ k → get m.decodes (operand_name task k) ≡ None) → ArePostable m (decodes_from task place os)
postable_decodes task place [] m none = tt
postable_decodes task place (o ∷ os) m none = (
  ap (option_map (Decode (operand_name task place))) (none place (omega arith)),
  postable_decodes task (suc place) os (posted m (Decode (operand_name task place) o))
      (λ k h. beside_inserted name_order m.decodes (operand_name task place) o (operand_name task k)
      (other_place task place k h)
      ∙ none k (omega (arith, h))),
)

-- releases from a place on
postable_releases : (task place : ℕ) (rs : List OperandState) (m : Mail)
    → ((k : ℕ) → place ≤ k → get m.releases (operand_name task k) ≡ None) → ArePostable m (releases_from task place rs)
postable_releases task place [] m none = tt
postable_releases task place (r ∷ rs) m none =
    by r.source
    (postable_releases task (suc place) rs m (λ k h. none k (omega (arith, h))))
    (λ c. postable_releases task (suc place) rs (posted m (Release (operand_name task place) c))
    (λ k h. beside_inserted name_order m.releases (operand_name task place) c (operand_name task k)
    (other_place task place k h)
    ∙ none k (omega (arith, h))))
  where
    by : (s : Option Source) → ArePostable m (releases_from task (suc place) rs)
        → ((c : _) → ArePostable (posted m (Release (operand_name task place) c)) (releases_from task (suc place) rs))
        → ArePostable m (release_of (operand_name task place) r s ++ releases_from task (suc place) rs)
    by None rest more = rest
    by (Some s) rest more =
        (ap (option_map (Release (operand_name task place))) (none place (omega arith)), more _)

-- nothing stands where nothing stood
still_none : {X : Type 0} → (m : Named X) (o q : OpName) → get m q ≡ None → get (remove m o) q ≡ None
still_none m o q e = elim (decide_key name_order q o) [
  | inl same ↦ ap (get (remove m o)) same ∙ at_removed name_order m o
  | inr apart ↦ beside_removed name_order m o q apart ∙ e
]

module _ (m : Machine) (S : State) (facts : Facts m S) where
  open facts use {all, ts, g, basis, ground, control as h}

  -- ---- take

  -- the inbox's task has no decode yet
  pub none_decoding : (t : Task) → S.inbox ≡ Some t → (o : OpName) → o.task ≡ t.number → get S.mail.decodes o ≡ None
  none_decoding t e o own = elim (decide_get S.mail.decodes o) [
    | inl none ↦ none
    | inr p ↦
        let gate = (ground.gateway.decodes o p.0 p.1).0 in
        let taken = (ground.gateway.each o gate).0 in
        let last = ap (λ x. taken_by x S.main.spawned) e in
        let number = (ground.numbers.inbox t e).number in
        let low = taken.0 in
        let high = taken.1 in
        absurd (omega (arith, own, low, high, last, number))
  ]

  -- what a take sends
  pub postable_take : (t : Task) → S.inbox ≡ Some t → ArePostable S.mail (sent_by_take t)
  postable_take t e =
      postable_decodes t.number 0 (operands_of t) S.mail (λ k h. none_decoding t e (operand_name t.number k) refl)

  -- ---- decode

  -- what a decode sends
  pub postable_decode : (o : OpName) (p : Operand) → get S.mail.decodes o ≡ Some p
      → ArePostable (taken S.mail (event.Decode o)) (after_decode m.sizes (tables_of S) o p).sent
  postable_decode o p there = by (get S.entries p.object.base)
    where
      before : Mail
      before = taken S.mail (event.Decode o)

      opens : get S.mail.opens o ≡ None
      opens = no_open m S basis h.orderly o p there

      uses : get S.mail.uses o ≡ None
      uses = no_use m S basis h.orderly o p there

      acks : get S.mail.acks o ≡ None
      acks = (ground.gateway.decodes o p there).1

      live : (e : Entry) (mode : Mode) → ArePostable before (live_message o p e mode ∷ Ack o ∷ [])
      live e Input = (ap (option_map (Use o)) uses, (ap (option_map (λ x. Ack o)) acks, tt))
      live e Output = (ap (option_map (Open o)) opens, (ap (option_map (λ x. Ack o)) acks, tt))
      live e Inout = (ap (option_map (Open o)) opens, (ap (option_map (λ x. Ack o)) acks, tt))

      by : (e : Option Entry) → ArePostable before (sent_by_decode o p e)
      by None = (ap (option_map (Open o)) opens, (ap (option_map (λ x. Ack o)) acks, tt))
      by (Some e) = live e p.mode

  -- ---- ready, link

  -- an operand that is told alone
  told_alone : (o next : OpName) (s : Source) → TellWaiting S (Ready next s ∷ []) → get S.mail.readies next ≡ None
  told_alone o next s waits = waiting_untold m S facts next (waits next (ap (λ b. b || false) (own_name next)))

  -- what a ready sends
  pub postable_ready : (o : OpName) (s : Source) → get S.mail.readies o ≡ Some s
      → ArePostable (taken S.mail (event.Ready o)) (after_ready S.flight o s).sent
  postable_ready o s there = by (get S.flight o.task) refl
    where
      before : Mail
      before = taken S.mail (event.Ready o)

      sends : (l : LinkState) → TellWaiting S (sent_by_ready l s) → ArePostable before (sent_by_ready l s)
      sends link.Nothing waits = tt
      sends (link.Held next) waits =
          (ap (option_map (Ready next)) (still_none S.mail.readies o next (told_alone o next s waits)), tt)
      sends link.Passed waits = tt

      at : (x : Flying) (r : Option OperandState) → get S.flight o.task ≡ Some x → slice_get x.operands o.place ≡ r
          → ArePostable before (woken_by S.flight o s x r).sent
      at x None e k = tt
      at x (Some r) e k =
          sends r.link (keeps_order m S facts (event.Ready o) s r there (operand_in S.flight o x e ∙ k))

      by : (x : Option Flying) → get S.flight o.task ≡ x → ArePostable before (woken_in S.flight o s x).sent
      by None e = tt
      by (Some x) e = at x (slice_get x.operands o.place) e refl

  -- what a link sends
  pub postable_link : (o next : OpName) → get S.mail.links o ≡ Some next
      → ArePostable (taken S.mail (event.Link o)) (after_link S.flight o next).sent
  postable_link o next there = by (get S.flight o.task) refl
    where
      before : Mail
      before = taken S.mail (event.Link o)

      sends : (s : Option Source) → TellWaiting S (sent_by_link s next) → ArePostable before (sent_by_link s next)
      sends None waits = tt
      sends (Some s) waits = (ap (option_map (Ready next)) (told_alone o next s waits), tt)

      at : (x : Flying) (r : Option OperandState) → get S.flight o.task ≡ Some x → slice_get x.operands o.place ≡ r
          → ArePostable before (linked_by S.flight o next x r).sent
      at x None e k = tt
      at x (Some r) e k =
          let found = keeps_order m S facts (event.Link o) next there in
          let same = same_Some found.0 r (sym found.1 ∙ operand_in S.flight o x e ∙ k) in
          sends r.source (subst (λ (r : OperandState). TellWaiting S (sent_by_link r.source next)) same found.2)

      by : (x : Option Flying) → get S.flight o.task ≡ x → ArePostable before (linked_in S.flight o next x).sent
      by None e = tt
      by (Some x) e = at x (slice_get x.operands o.place) e refl

  -- ---- finish

  -- no operand of a task that runs on a worker has a release yet
  none_releasing : (w : ℕ) (b : Busy) → get S.workers w ≡ Some b → (o : OpName) → o.task ≡ b.task.number
      → get S.mail.releases o ≡ None
  none_releasing w b e o own = elim (decide_get S.mail.releases o) [
    | inl none ↦ none
    | inr c ↦
        let r = (releasing_stands (look_ups S o) c.0 (h.orderly o) c.1).1.0.1 in
        let ready = (keeps_order m S facts (event.Finish w) b e).1 o r.kept own r.there in
        let silent = (ready_shows (look_ups S o) ready).0 in
        absurd (none-some c.0 (sym silent.releasing ∙ c.1))
  ]

  -- what a finish sends
  pub postable_finish : (w : ℕ) (b : Busy) → get S.workers w ≡ Some b
      → ArePostable S.mail (flight_after_finish S.flight b.task.number).sent
  postable_finish w b e = by (get S.flight b.task.number)
    where
      by : (x : Option Flying) → ArePostable S.mail (finished_in S.flight b.task.number x).sent
      by None = tt
      by (Some x) =
          postable_releases b.task.number 0 x.operands S.mail
          (λ k h. none_releasing w b e (operand_name b.task.number k) refl)

  -- ---- idle, copy

  -- what an idle sends
  pub postable_idle : (v : OpName) (i : IdleContents) → get S.mail.idles v ≡ Some i
      → ArePostable (taken S.mail (event.Idle v)) (after_idle S.entries v i.base i.count).sent
  postable_idle v i there =
      by (get S.entries i.base) (may_retire v i.count (get S.entries i.base))
    where
      by : (e : Option Entry) (b : Bool)
          → ArePostable (taken S.mail (event.Idle v)) (idle_by S.entries v i.base e b).sent
      by e true = (ap (option_map (λ x. Retire v)) (ground.asking.idles v i there).2, tt)
      by e false = (ap (option_map (λ x. Nack v)) (ground.asking.idles v i there).1, tt)

  -- what a copy sends
  pub postable_copy : (b : ℕ) (c : CopyState) → get S.copies b ≡ Some c
      → ArePostable S.mail (sent_by_copy c (is_last_piece c))
  postable_copy b c there = by (is_last_piece c)
    where
      unsaid : get S.mail.gones c.version ≡ None
      unsaid = elim (decide_get S.mail.gones c.version) [
        | inl none ↦ none
        | inr g ↦ absurd ((ground.places.gones c.version g.0 g.1).1 (b, c, there, refl))
      ]

      by : (last : Bool) → ArePostable S.mail (sent_by_copy c last)
      by true = (ap (option_map (Gone c.version)) unsaid, tt)
      by false = tt
