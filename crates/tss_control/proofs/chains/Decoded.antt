-- The chains after a decode, which sends an open or a use.
use Rattle.std.proofs.Common.{◌≡◌, ◌≢◌, ℕ, ◌+◌, ◌≤◌, ◌<◌, false, List, Option, Some, None, refl, sym, ap, ◌∙◌, subst}
use Rattle.std.proofs.Common.{inl, inr, arith}
use Rattle.std.specs.FinMap.{get, insert}
use Rattle.std.proofs.lemmas.Option.{none-some, same_Some}
use Rattle.tss_base.specs.declared.range.Range.{Range}
use Rattle.tss_base.specs.declared.operand.OpName.{OpName}
use Rattle.tss_base.specs.declared.operand.Mode.{Mode}
use Rattle.tss_base.specs.declared.operand.Mode.TheVariants.{Input, Output, Inout}
use Rattle.tss_base.specs.declared.operand.Operand.{Operand}
use Rattle.tss_base.specs.declared.operand.Task.{Task}
use Rattle.tss_base.specs.declared.machine.Machine.{Machine}
use Rattle.tss_base.specs.declared.event.Event.TheVariants as event
use Rattle.tss_base.specs.declared.marks.How.TheVariants.{Beside, Over}
use Rattle.tss_base.specs.declared.marks.Follow.{Follow}
use Rattle.tss_maps.specs.Sums.{one_if}
use Rattle.tss_maps.proofs.Keys.{name_order}
use Rattle.tss_maps.proofs.Changes.{from_inserted}
use Rattle.tss_maps.proofs.Sums.{sum_added}
use Rattle.tss_protocol.specs.Names.{same_name}
use Rattle.tss_protocol.specs.Mail.{Home, Buffer, OpenContents}
use Rattle.tss_protocol.specs.State.{State, Entry, Version}
use Rattle.tss_protocol.specs.Renaming.{follows_latest}
use Rattle.tss_protocol.specs.UnitMachine.{IsEnabled, is_enabled, can_decode_message, after_event}
use Rattle.tss_phases.proofs.Received.{other_name}
use Rattle.tss_phases.proofs.Tests.{something}
use Rattle.tss_control.proofs.rounds.EntryOf.{no_entry_at}
use Rattle.tss_control.specs.Members.{operand_among, IsMember, registered_of, opening_reader, uses_of, total}
use Rattle.tss_control.specs.Members.{NoWriterBetween}
use Rattle.tss_control.specs.Chains.{IsFollowed, OpensAfter, IsOpenInOrder, IsUseInOrder, HasChains, FollowsAs}
use Rattle.tss_control.specs.Entries.{IsLive}
use Rattle.tss_control.proofs.chains.Numbers.{crossed}
use Rattle.tss_control.proofs.rounds.EntriesNames.{decode_among, no_version, no_open, no_use, object_of_entry}
use Rattle.tss_control.proofs.rounds.EntriesDecodeOpen.{DecodesOpen}
use Rattle.tss_control.proofs.rounds.EntriesDecode.{sends_first, sends_beside, sends_over, sends_use, entry_awake}
use Rattle.tss_protocol.proofs.TurnLemmas.{decode_in_turn}
use Rattle.tss_control.proofs.rounds.DecodeFacts.{members_earlier, no_writer_since}
use Rattle.tss_control.proofs.chains.Decode.{KeepsVersions, version_was, versions_were, linked_left, stored_left}
use Rattle.tss_control.proofs.chains.Decode.{chains_opened, opens_behind, opens_nothing, opens_behind_latest}
use Rattle.tss_control.proofs.rounds.Facts.{Facts}

plus_none : (a b : ℕ) → a ≡ b + 0 → a ≡ b
plus_none a b e = omega (arith, e)

-- ---- one more use, of the latest version of an object

module _ (ts : List Task) (S T : State) (h : HasChains ts S) (o : OpName) (x : Range) (e : Entry)
    (live : IsLive S x e) (latest_object : (r : Range) → IsMember S r e.latest → x ≡ r)
    (no_use : get S.mail.uses o ≡ None)
    (versions : T.versions ≡ S.versions) (opens : T.mail.opens ≡ S.mail.opens)
    (uses : T.mail.uses ≡ insert S.mail.uses o e.latest) where
  uses_beside_latest : (w : OpName) → e.latest ≢ w → uses_of T.mail.uses w ≡ uses_of S.mail.uses w
  uses_beside_latest w apart =
      ap (λ us. uses_of us w) uses
      ∙ plus_none (uses_of (insert S.mail.uses o e.latest) w) (uses_of S.mail.uses w)
      (sum_added name_order (λ q z. one_if (same_name z w)) S.mail.uses o e.latest no_use
      ∙ ap (λ b. uses_of S.mail.uses w + one_if b) (other_name e.latest w apart))

  total_beside : (w : OpName) → e.latest ≢ w → total T w ≡ total S w
  total_beside w apart = λ i.
      registered_of (get (versions i) w) + opening_reader (get (opens i) w) + uses_beside_latest w apart i

  -- the latest version has no successor
  not_followed : (v : OpName) (y : Version) (f : Follow) → get S.versions v ≡ Some y → IsFollowed S v y f
      → e.latest ≢ v
  not_followed v y f there b is =
      let object : x ≡ y.object =
      latest_object y.object (inl (y, ap (λ q. get S.versions q) is ∙ there, refl)) in
      crossed v.task f.version.task b.younger
      (subst (λ (q : OpName). f.version.task ≤ q.task) is
      (live.latest f.version (inl (b.version, b.there, b.object ∙ sym object))))

  kept : KeepsVersions S T
  kept = record {
    versions = versions;
    all = λ v y f there b. total_beside v (not_followed v y f there b);
  }

  member_back : (r : Range) (w : OpName) → IsMember T r w → IsMember S r w
  member_back r w (inl m) = inl (versions_were ts S T h kept r w m)
  member_back r w (inr m) = inr (m.0, sym (ap (λ os. get os w) opens) ∙ m.1, m.2)

  member_on : (r : Range) (w : OpName) → IsMember S r w → IsMember T r w
  member_on r w (inl m) = inl (m.0, ap (λ vs. get vs w) versions ∙ m.1, m.2)
  member_on r w (inr m) = inr (m.0, ap (λ os. get os w) opens ∙ m.1, m.2)

  open_left : (q : OpName) (k : OpenContents) → get S.mail.opens q ≡ Some k → IsOpenInOrder ts T q k
  open_left q k there =
      let i = h.opens q k there in
      record {
        operand = i.operand;
        behind = λ w m. i.behind w (versions_were ts S T h kept k.operand.object w m);
        first = λ none.
            let t = i.first none in
            record { storage = t.storage; first = λ w m. t.first w (member_back k.operand.object w m) };
        after = λ f to.
            let t = i.after f to in
            let apart : e.latest ≢ f.version = λ is.
            let object = latest_object k.operand.object (subst (IsMember S k.operand.object) (sym is) t.member) in
            crossed f.version.task q.task t.older
            (subst (λ (z : OpName). q.task ≤ z.task) is (live.latest q (inr (k, there, sym object)))) in
            record {
              member = member_on k.operand.object f.version t.member;
              older = t.older;
              near = λ w m. t.near w (member_back k.operand.object w m);
              last = t.last ∙ sym (total_beside f.version apart);
              way = t.way;
              alone = t.alone;
            };
      }

  use_left : (q w : OpName) → IsUseInOrder ts S q w → IsUseInOrder ts T q w
  use_left q w i = record {
    operand = i.operand;
    there = i.there;
    mode = i.mode;
    member = member_on i.operand.object w i.member;
    older = i.older;
    alone = i.alone;
  }

  -- the chains with the new use, where that was in order before
  chains_directed : IsUseInOrder ts S o e.latest → HasChains ts T
  chains_directed new = record {
    one = λ r v w a b same. h.one r v w (member_back r v a) (member_back r w b) same;
    opener = λ v y at. h.opener v y (version_was ts S T h kept v y at);
    linked = λ v y at. linked_left ts S T h kept v y (version_was ts S T h kept v y at);
    storages = λ v y at. stored_left ts S T h kept v y (version_was ts S T h kept v y at);
    opens = λ q k at. open_left q k (sym (ap (λ os. get os q) opens) ∙ at);
    uses = λ q w at.
        elim (from_inserted name_order S.mail.uses o e.latest q w (sym (ap (λ us. get us q) uses) ∙ at)) [
          | inl is ↦
              subst (λ z. IsUseInOrder ts T z w) (sym is.0)
              (subst (IsUseInOrder ts T o) (sym is.1) (use_left o e.latest new))
          | inr old ↦ use_left q w (h.uses q w old.1)
        ];
  }

-- ---- decode

module _ (m : Machine) (S : State) (facts : Facts m S) (o : OpName) (on : IsEnabled m S (event.Decode o)) where
  open facts use {basis, ts, g, control as k}

  module _ (p : Operand) (there : get S.mail.decodes o ≡ Some p) where
    abbrev T : State
    T = after_event m S (event.Decode o)

    among : operand_among ts o ≡ Some p
    among = decode_among m S basis k.orderly o p there

    earlier : (q : OpName) → IsMember S p.object q → q.task < o.task
    earlier = members_earlier m S basis k.orderly o p there k.chains

    opened : (c : OpenContents) (n : Entry) → c.operand ≡ p → DecodesOpen S T o p c n
        → (IsOpenInOrder ts T o c) → HasChains ts T
    opened c n is d new =
        chains_opened ts S T k.chains o c
        (subst (λ (z : Operand). (q : OpName) → IsMember S z.object q → q.task < o.task) (sym is) earlier)
        (no_version m S basis k.orderly o p there) (no_open m S basis k.orderly o p there)
        d.leaving.versions d.opens d.uses new

    -- an object without an entry
    decoded_first : get S.entries p.object.base ≡ None → HasChains ts T
    decoded_first none =
        let c : OpenContents = record { operand = p; storage = Some Home; follows = None } in
        let d = sends_first m S o p there none in
        let a = k.entries.absent o p among (no_entry_at S p.object none) in
        let fresh = no_version m S basis k.orderly o p there in
        let closed = no_open m S basis k.orderly o p there in
        opened c _ refl d
        (record {
          operand = among;
          behind = opens_behind ts S T k.chains o c earlier fresh closed d.leaving.versions d.opens d.uses;
          first = λ e. record {
            storage = refl;
            first =
                opens_nothing ts S T k.chains o c earlier fresh closed d.leaving.versions d.opens d.uses a.members;
          };
          after = λ f e. absurd (none-some f e);
        })

    module _ (e : Entry) (at : get S.entries p.object.base ≡ Some e) where
      object : e.object ≡ p.object
      object = object_of_entry m S basis k.orderly k.entries o p there e at

      awake : e.retiring ≡ false
      awake = entry_awake m S o p there on e at

      live : IsLive S p.object e
      live = subst (λ x. IsLive S x e) object (k.entries.live p.object.base e at awake)

      alone : NoWriterBetween ts p.object e.latest o
      alone = no_writer_since m S basis k.orderly o p there (decode_in_turn m S o p there on)
          k.entries p.object.base e at object

      -- an operand that writes follows the latest version
      decoded_behind : (c : OpenContents) (n : Entry) (f : Follow) → c.operand ≡ p → c.follows ≡ Some f
          → f.version ≡ e.latest → f.last ≡ e.sent → FollowsAs o c f → DecodesOpen S T o p c n → HasChains ts T
      decoded_behind c n f is to version last way d =
          let fresh = no_version m S basis k.orderly o p there in
          let closed = no_open m S basis k.orderly o p there in
          let early =
          subst (λ (z : Operand). (q : OpName) → IsMember S z.object q → q.task < o.task) (sym is) earlier in
          opened c n is d
          (record {
            operand = among ∙ ap Some (sym is);
            behind = opens_behind ts S T k.chains o c early fresh closed d.leaving.versions d.opens d.uses;
            first = λ none. absurd (none-some f (sym none ∙ to));
            after = λ g at.
                subst (OpensAfter ts T o c) (same_Some f g (sym to ∙ at))
                (opens_behind_latest ts S T k.chains o c early fresh closed d.leaving.versions d.opens d.uses e f
                version
                last
                (subst (λ (z : Operand). IsLive S z.object e) (sym is) live)
                way
                (subst (λ (z : Operand). NoWriterBetween ts z.object e.latest o) (sym is) alone));
          })

      -- an input uses it
      latest_object : (r : Range) → IsMember S r e.latest → p.object ≡ r
      latest_object r member =
          let q = k.entries.operand p.object.base e at in
          sym object ∙ sym q.1.2 ∙ same_operand r member q.1.0 q.1.1
        where
          same_operand : (r : Range) → IsMember S r e.latest → (q : Operand) → operand_among ts e.latest ≡ Some q
              → q.object ≡ r
          same_operand r (inl y) q is =
              let own = k.chains.opener e.latest y.0 y.1 in
              ap (λ (z : Operand). z.object) (same_Some q own.0 (sym is ∙ own.1)) ∙ own.2 ∙ y.2
          same_operand r (inr c) q is =
              ap (λ (z : Operand). z.object)
              (same_Some q c.0.operand (sym is ∙ (k.chains.opens e.latest c.0 c.1).operand))
              ∙ c.2

      decoded_input : p.mode ≡ Input → HasChains ts T
      decoded_input is =
          let d = sends_use m S o p there e at object awake is in
          chains_directed ts S T k.chains o p.object e live latest_object
          (no_use m S basis k.orderly o p there) d.leaving.versions d.opens d.uses
          (record {
            operand = p;
            there = among;
            mode = is;
            member = live.member;
            older = earlier e.latest live.member;
            alone = alone;
          })

      decoded_mode : (mode : Mode) → p.mode ≡ mode → HasChains ts T
      decoded_mode Input is = decoded_input is
      decoded_mode Output is =
          decoded_behind (record { operand = p; storage = Some (Buffer o); follows = Some (follows_latest e Beside) }) _
          (follows_latest e Beside) refl refl refl refl (inr (is, refl, refl))
          (sends_beside m S o p there e at object awake is)
      decoded_mode Inout is =
          decoded_behind (record { operand = p; storage = None; follows = Some (follows_latest e Over) }) _
          (follows_latest e Over) refl refl refl refl (inl (is, refl, refl))
          (sends_over m S o p there e at object awake is)

    decoded_by : (e : Option Entry) → get S.entries p.object.base ≡ e → HasChains ts T
    decoded_by None none = decoded_first none
    decoded_by (Some e) at = decoded_mode e at p.mode refl

  -- decode
  pub HasChains-decode : HasChains ts (after_event m S (event.Decode o))
  unfolding is_enabled
  HasChains-decode =
      let p = something (can_decode_message m S o) (get S.mail.decodes o) refl on in
      decoded_by p.0 p.1 (get S.entries p.0.object.base) refl
