-- What operands hold after a release.
use Rattle.std.proofs.Common.{◌≡◌, ◌≢◌, Bool, true, false, ◌++◌, Option, Some, None, refl, sym, ap, ◌∙◌, subst, inl}
use Rattle.std.proofs.Common.{inr, true≢false}
use Rattle.std.specs.Prelude.{is_some}
use Rattle.std.specs.FinMap.{get}
use Rattle.std.proofs.lemmas.Option.{none-some, same_Some}
use Rattle.tss_base.specs.declared.operand.OpName.{OpName}
use Rattle.tss_base.specs.declared.operand.Operand.{Operand}
use Rattle.tss_base.specs.declared.machine.Machine.{Machine}
use Rattle.tss_base.specs.declared.event.Event.TheVariants as event
use Rattle.tss_maps.proofs.Keys.{name_order, decide_key}
use Rattle.tss_maps.proofs.Changes.{at_inserted, beside_inserted, one_value}
use Rattle.tss_model.specs.Access.{writes}
use Rattle.tss_protocol.specs.Mail.{Source, StorageName}
use Rattle.tss_protocol.specs.State.{State, OperandState, Version}
use Rattle.tss_protocol.specs.Stations.{operand_at}
use Rattle.tss_protocol.specs.Versions.{ready_with, head_ready}
use Rattle.tss_protocol.specs.UnitMachine.{is_enabled, IsEnabled, after_event}
use Rattle.tss_phases.specs.Phase.{Waiting, Told, Leaving, Left, LookUps, look_ups, phase_at, phase_of}
use Rattle.tss_phases.specs.Told.{tells, phase_told}
use Rattle.tss_phases.specs.Openers.{holds_version}
use Rattle.tss_phases.specs.Alone.{IsSilent}
use Rattle.tss_phases.proofs.Shown.{waiting_shows}
use Rattle.tss_phases.specs.Orderly.{IsInformed, IsOrderly}
use Rattle.tss_phases.proofs.Received.{received_all}
use Rattle.tss_phases.proofs.News.{untold, told}
use Rattle.tss_phases.proofs.ToldPhases.{second_tells}
use Rattle.tss_phases.proofs.ReleaseEvent.{heads_told, bye_promised, sent_by_release}
use Rattle.tss_phases.proofs.OrderlyLemmas.{releasing_stands}
use Rattle.tss_phases.proofs.Tests.{something}
use Rattle.tss_locality.proofs.LeftFields.{Leaves-after_event}
use Rattle.tss_control.specs.Members.{operand_among}
use Rattle.tss_control.specs.Readers.{Has, head_of, oldest_of}
use Rattle.tss_control.specs.Holders.{IsTrue, IsOwnOrRead, HasHolders, PromiseFits}
use Rattle.tss_protocol.proofs.SentLemmas.{AllSent, AllSent-append}
use Rattle.tss_control.proofs.rounds.ReadersLists.{has_oldest}
use Rattle.tss_control.proofs.rounds.ReleaseFacts.{releases_facts}
use Rattle.tss_control.proofs.holders.Fits.{Holding, LinksFit, HoldsIn, HasOpened, HasCome, Needs, holding_of}
use Rattle.tss_control.proofs.holders.Fits.{holding_mapped, holders_by}
use Rattle.tss_control.proofs.holders.Moves.{TellsTrue, told_true, holding_told_by}
use Rattle.tss_control.proofs.holders.Leaves.{holding_released}
use Rattle.tss_control.proofs.holders.Sent.{tells_true}
use Rattle.tss_control.proofs.holders.Ready.{reader_operand, waiting_input}
use Rattle.tss_control.proofs.holders.Promises.{promise_reader}
use Rattle.tss_control.proofs.holders.Settled.{stays_alike}
use Rattle.tss_control.proofs.holders.Releases.{z_parts, not_linked, none_waits_by, not_needed_by, stays_or_gone}
use Rattle.tss_control.proofs.holders.RunnerEvents.{HasRunners-after_event}
use Rattle.tss_control.proofs.holders.Releasing.{settles, versions, after, order, waits, news, same_link, looked}
use Rattle.tss_control.proofs.holders.Releasing.{not_waiting, came, kept, own_looked, now_leaving, other_phase}
use Rattle.tss_control.proofs.holders.ReleasedOpeners.{reads_input, openers}
use Rattle.tss_control.proofs.rounds.Facts.{Facts}
use Rattle.tss_control.proofs.holders.Release.{Release, released}

module _ (m : Machine) (S : State) (release : Release m S) where
  open release use {all, ts, g, ground, control as h, o, on, c, there, k}
  open released m S release use {T, v, x, vs, d, hs}

  abbrev stands : IsSilent (record (look_ups S o) { releasing = None }) × IsInformed (look_ups S o)
  stands = releasing_stands (look_ups S o) c (h.orderly o) there

  abbrev r : OperandState
  r = stands.1.0.1.kept

  abbrev own_look_ups : LookUps
  own_look_ups = record (look_ups S o) { releasing = None; leaving = Some (bye_promised o x c.producer) }

  -- ---- the operand itself

  promise : (p : Operand) → operand_among ts o ≡ Some p
      → PromiseFits (get S.mail.links o) r.link (bye_promised o x c.producer)
  promise p e = by c.producer refl
    where
      links : LinksFit (writes p.mode) (look_ups S o) (get S.mail.links o) r
      links = (holding_of ts g S h.holders o p e).links r (kept m S release)

      same : p ≡ k.operand
      same = same_Some p k.operand (sym e ∙ k.among)

      by : (b : Bool) → c.producer ≡ b → PromiseFits (get S.mail.links o) r.link (bye_promised o x b)
      by true f = links.writer (ap (λ (p : Operand). writes p.mode) same ∙ sym k.producer ∙ f)
      by false f =
          promise_reader ts (g v) S v x (h.readers.versions v x k.there) o
          (subst (λ w. IsOwnOrRead g o w v) (sym k.producer ∙ f) k.own) k.phase (writes p.mode) r
          (kept m S release) links

  -- one that has a link to pass on reads, and its version stays
  own_stays : (next : OpName) → get S.mail.links o ≡ Some next → (p : Operand) → operand_among ts o ≡ Some p
      → (s : Source) → IsTrue g S o p s → IsTrue g T o p s
  own_stays next l p e s t =
      let reads = reads_by (writes p.mode) refl in
      elim (stays_or_gone m S release d (settles m S release) s.version t.version t.there) [
        | inl n ↦ record {
          version = n.0;
          there = ap (λ vs. get vs s.version) (versions m S release) ∙ n.1;
          object = n.2 ∙ t.object;
          storage = n.3 s.storage t.storage;
          own = t.own;
        }
        | inr gone ↦
            absurd (not_linked m S release d.part gone.1 o next
            (subst (λ v. Has o (g v)) gone.0 (subst (λ w. IsOwnOrRead g o w s.version) reads t.own)) l)
      ]
    where
      reads_by : (b : Bool) → writes p.mode ≡ b → writes p.mode ≡ false
      reads_by false f = f
      reads_by true f =
          absurd (none-some next
          (sym (((holding_of ts g S h.holders o p e).links r (kept m S release)).writer f).1
          ∙ l))

  own_holds : (p : Operand) → operand_among ts o ≡ Some p → HoldsIn g T o p
  own_holds p e =
      subst (λ n. Holding (IsTrue g T o p) (HasOpened T o) (HasCome g T o) (writes p.mode) (look_ups T o) n)
      (sym ((same_link m S release) o))
      (subst (λ l. Holding (IsTrue g T o p) (HasOpened T o) (HasCome g T o) (writes p.mode) l (get S.mail.links o))
      (sym (own_looked m S release))
      (holding_mapped (IsTrue g S o p) (IsTrue g T o p) (HasOpened S o) (HasOpened T o) (HasCome g S o) (HasCome g T o)
      (writes p.mode) own_look_ups (get S.mail.links o)
      (subst IsOrderly (own_looked m S release)
      ((after m S release) o))
      (λ s needs. elim needs [
        | inl holds ↦ λ t. absurd (true≢false (sym holds ∙ ap holds_version phase_now))
        | inr l ↦ own_stays l.0 l.1 p e s
      ])
      (λ w f. absurd (leaving_waits (sym phase_now ∙ f)))
      (λ w f. absurd (leaving_waits (sym phase_now ∙ f)))
      (holding_released (IsTrue g S o p) (HasOpened S o) (HasCome g S o) (writes p.mode) (look_ups S o)
      (get S.mail.links o) (holding_of ts g S h.holders o p e) k.phase stands.0 r
      (kept m S release) (bye_promised o x c.producer)
      (promise p e))))
    where
      phase_now : phase_at own_look_ups ≡ Leaving
      phase_now = sym (ap phase_at (own_looked m S release))
          ∙ (now_leaving m S release)

      leaving_waits : Leaving ≡ Waiting → ⊥
      leaving_waits e = cc

  -- ---- the others

  module _ (q : OpName) (apart : q ≢ o) (p : Operand) (among : operand_among ts q ≡ Some p) where
    abbrev P : Source → Type 0
    P = IsTrue g T q p

    true_on : (s : Source) → Needs (phase_of S q) (get S.mail.links q) → IsTrue g S q p s → IsTrue g T q p s
    true_on s needs t =
        elim (stays_or_gone m S release d
        (settles m S release) s.version t.version t.there) [
          | inl n ↦ record {
            version = n.0;
            there = ap (λ vs. get vs s.version) (versions m S release) ∙ n.1;
            object = n.2 ∙ t.object;
            storage = n.3 s.storage t.storage;
            own = t.own;
          }
          | inr gone ↦ absurd (not_needed_by m S release d.part gone.1 q apart p s among needs t gone.0)
        ]

    come_on : phase_of S q ≡ Waiting → HasCome g S q → HasCome g T q
    come_on w y = elim (stays_or_gone m S release d (settles m S release) y.0 y.1 y.2) [
      | inl n ↦ (y.0, n.0, ap (λ vs. get vs y.0) (versions m S release) ∙ n.1, y.3)
      | inr gone ↦
          absurd (none_waits_by m S release d.part gone.1 q (subst (λ v. Has q (g v)) gone.0 y.3) w)
    ]

    opened_on : tells (hs ++ d.sent) q ≡ false → phase_of S q ≡ Waiting → HasOpened S q → HasOpened T q
    opened_on silent w y =
        let far : q ≢ v = λ f. (not_waiting m S release) (ap (phase_of S) (sym f) ∙ w) in
        elim ((settles m S release).others q far) [
          | inl alike ↦
              let n = stays_alike vs d.part q alike y.0 (beside_inserted name_order S.versions v _ q far ∙ y.1) in
              (n.0, ap (λ vs. get vs q) (versions m S release) ∙ n.1, n.2.storage ∙ y.2)
          | inr t ↦
              let z_is = one_value vs v t.version _ t.there (at_inserted name_order S.versions v _) in
              let stored = ap (λ (y : Version). y.storage) z_is ∙ (z_parts m S release).1 ∙ k.stored in
              absurd (true≢false (sym (second_tells hs d.sent q (t.told k.storage stored)) ∙ silent))
        ]

    -- what it is told is true
    module _ (w : phase_of S q ≡ Waiting) where
      head_true : (t : StorageName) → x.storage ≡ Some t → x.head ≡ Some q → P (record { version = v; storage = t })
      head_true t stored head =
          let has = has_oldest q (g v) (by x.produced refl) in
          let on_it = reader_operand ts g S h.chains h.readers h.holders v x k.there q has p among in
          elim (stays_or_gone m S release d (settles m S release) v x k.there) [
            | inl n ↦ record {
              version = n.0;
              there = ap (λ vs. get vs v) (versions m S release) ∙ n.1;
              object = n.2 ∙ sym on_it.0;
              storage = n.3 t stored;
              own = subst (λ w. IsOwnOrRead g q w v) (sym (ap writes on_it.1)) has;
            }
            | inr gone ↦ absurd (none_waits_by m S release d.part gone.1 q has w)
          ]
        where
          by : (b : Bool) → x.produced ≡ b → oldest_of (g v) ≡ Some q
          by true e =
              let a = h.readers.versions v x k.there in
              absurd (none-some q (sym (ap (λ b. head_of b (g v)) e) ∙ sym a.head ∙ head))
          by false e =
              let a = h.readers.versions v x k.there in
              sym (ap (λ b. head_of b (g v)) e) ∙ sym a.head ∙ head

      heads_true : AllSent (TellsTrue q P) hs
      heads_true = by c.producer
        where
          with_storage : (a : OpName) → x.head ≡ Some a → (s : Option StorageName) → x.storage ≡ s
              → AllSent (TellsTrue q P) (ready_with a v s)
          with_storage a f None e = tt
          with_storage a f (Some t) e = (λ same. head_true t e (f ∙ ap Some (sym same)), tt)

          head : (a : Option OpName) → x.head ≡ a → AllSent (TellsTrue q P) (head_ready v x a)
          head None f = tt
          head (Some a) f = with_storage a f x.storage refl

          by : (b : Bool) → AllSent (TellsTrue q P) (heads_told v x b)
          by true = head x.head refl
          by false = tt

      far : q ≢ v
      far f = (not_waiting m S release) (ap (phase_of S) (sym f) ∙ w)

      own_true : (u : Source) (z : Version) → u.version ≡ q → get d.part q ≡ Some z → z.storage ≡ Some u.storage → P u
      own_true u z is at stored =
          let b = (came m S release) q far z at in
          let on_it = h.chains.opener q b.0 b.1 in
          record {
            version = z;
            there = ap (λ vs. get vs u.version) (versions m S release) ∙ ap (get d.part) is
                ∙ at;
            object = b.2 ∙ sym on_it.2
                ∙ ap (λ (p : Operand). p.object) (same_Some on_it.0 p (sym on_it.1 ∙ among));
            storage = stored;
            own = by (writes p.mode) refl b.0 b.1;
          }
        where
          by : (b : Bool) → writes p.mode ≡ b → (y : Version) → get S.versions q ≡ Some y
              → IsOwnOrRead g q (writes p.mode) u.version
          by true e y at = subst (λ b. IsOwnOrRead g q b u.version) (sym e) is
          by false e y at =
              absurd (waiting_input ts g S h.chains h.readers h.holders q w y at p among (reads_input p.mode e))

      all_true : AllSent (TellsTrue q P) (hs ++ d.sent)
      all_true =
          AllSent-append (TellsTrue q P) hs d.sent heads_true
          (tells_true d.part q P d.sent (settles m S release).sent own_true)

    other_holds : HoldsIn g T q p
    other_holds =
        subst (λ n. Holding P (HasOpened T q) (HasCome g T q) (writes p.mode) (look_ups T q) n)
        (sym ((same_link m S release) q))
        (subst (λ l. Holding P (HasOpened T q) (HasCome g T q) (writes p.mode) l (get S.mail.links q))
        (sym ((looked m S release) q apart))
        (by (tells (hs ++ d.sent) q) refl))
      where
        was : HoldsIn g S q p
        was = holding_of ts g S h.holders q p among

        by : (b : Bool) → tells (hs ++ d.sent) q ≡ b
            → Holding P (HasOpened T q) (HasCome g T q) (writes p.mode) (received_all (hs ++ d.sent) q (look_ups S q))
            (get S.mail.links q)
        by false e =
            subst (λ l. Holding P (HasOpened T q) (HasCome g T q) (writes p.mode) l (get S.mail.links q))
            (sym (untold (hs ++ d.sent) q (look_ups S q) (news m S release) e))
            (holding_mapped (IsTrue g S q p) P (HasOpened S q) (HasOpened T q) (HasCome g S q) (HasCome g T q)
            (writes p.mode) (look_ups S q) (get S.mail.links q) (h.orderly q) true_on (λ w f. opened_on e f)
            (λ w f. come_on f) was)
        by true e =
            let w = (waits m S release) q e in
            let t = told (hs ++ d.sent) q (look_ups S q) (news m S release) e in
            let silent = (waiting_shows (look_ups S q) w).0.telling in
            subst (λ l. Holding P (HasOpened T q) (HasCome g T q) (writes p.mode) l (get S.mail.links q)) (sym t.1)
            (holding_told_by P (HasOpened T q) (HasCome g T q) (writes p.mode) (look_ups S q) (get S.mail.links q) w
            was.links t.0
            (told_true P q (hs ++ d.sent) (look_ups S q) t.0 (all_true w) (λ i. (t.1 i).telling)
            (λ f. absurd (none-some t.0 (sym silent ∙ f)))))

  -- ---- all

  flight_same : T.flight ≡ S.flight
  flight_same = λ i. (Leaves-after_event m S (event.Release o) i).flight

  records : (q next : OpName) → get T.mail.links q ≡ Some next
      → (r : OperandState) × (operand_at T.flight q ≡ Some r) × (phase_of T q ≡ Left → ⊥)
  records q next e =
      let a = h.holders.records q next (sym ((same_link m S release) q) ∙ e) in (
        a.0,
        ap (λ f. operand_at f q) flight_same ∙ a.1,
        λ left. elim (decide_key name_order q o) [
          | inl same ↦ leaving_left
              (sym (now_leaving m S release) ∙ ap (phase_of T) (sym same) ∙ left)
          | inr apart ↦ not_left a.2 (tells (sent_by_release S.versions o v x c.producer) q)
              (sym ((other_phase m S release) q apart) ∙ left)
        ],
      )
    where
      leaving_left : Leaving ≡ Left → ⊥
      leaving_left e = cc

      told_left : Told ≡ Left → ⊥
      told_left e = cc

      not_left : (phase_of S q ≡ Left → ⊥) → (b : Bool) → phase_told b (phase_of S q) ≡ Left → ⊥
      not_left n true e = told_left e
      not_left n false e = n e

  each_holds : (q : OpName) (p : Operand) → operand_among ts q ≡ Some p → HoldsIn g T q p
  each_holds q p e = elim (decide_key name_order q o) [
    | inl same ↦ subst (λ q. HoldsIn g T q p) (sym same) (own_holds p (ap (operand_among ts) (sym same) ∙ e))
    | inr apart ↦ other_holds q apart p e
  ]

  -- who holds what, after it
  holders_released : HasHolders ts g T
  holders_released =
      holders_by ts g T each_holds (openers m S release) records
      (HasRunners-after_event m all S ground.numbers ground.stages h.orderly h.holders.runners (event.Release o) on
      (order m S release))

-- release
pub HasHolders-release : (m : Machine) (S : State) (facts : Facts m S) → (o : OpName) → IsEnabled m S (event.Release o)
    → HasHolders facts.ts facts.g (after_event m S (event.Release o))
unfolding is_enabled
HasHolders-release m S facts o on =
    let c = something is_some (get S.mail.releases o) refl on in
    holders_released m S (record {
      facts = facts;
      o = o;
      on = on;
      c = c.0;
      there = c.1;
      k = releases_facts facts.ts facts.g S facts.ground.round facts.control.orderly facts.control.holders o c.0 c.1;
    })
