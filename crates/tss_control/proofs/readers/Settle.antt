-- What a settle leaves to the readers of versions: it removes versions alone that as many have released as it was to
-- have, and changes nothing in the others that readers make.
use Rattle.std.proofs.Common.{◌≡◌, ◌⊎◌, inl, inr, ℕ, zero, suc, Bool, true, false, Option, Some, None, refl, sym, ap}
use Rattle.std.proofs.Common.{◌∙◌, subst, arith}
use Rattle.std.specs.Prelude.{option_map, ◌&&◌, ◌==◌, is_none, if◌then◌else◌}
use Rattle.std.proofs.lemmas.Bool.Decides.{nat_tests}
use Rattle.std.proofs.lemmas.Option.{none-some, same_Some}
use Rattle.std.specs.FinMap.{get, insert}
use Rattle.tss_base.specs.declared.operand.OpName.{OpName}
use Rattle.tss_base.specs.declared.marks.How.{How}
use Rattle.tss_base.specs.declared.marks.How.TheVariants.{Beside, Over}
use Rattle.tss_base.specs.declared.marks.Follow.{Follow}
use Rattle.tss_base.specs.Names.{Named}
use Rattle.tss_maps.proofs.Keys.{name_order, decide_key}
use Rattle.tss_maps.proofs.Changes.{from_inserted, from_removed, at_inserted, beside_inserted, beside_removed}
use Rattle.tss_protocol.specs.Mail.{StorageName}
use Rattle.tss_protocol.specs.State.{Version}
use Rattle.tss_protocol.specs.Versions.{Settling, put_version, drop_version, version_changed, change_version}
use Rattle.tss_protocol.specs.Versions.{change_named, may_die, may_ask, followed_by, unlinked, settle_asking}
use Rattle.tss_protocol.specs.Versions.{settle_how, settle_by, settle_at, settle, unchanged}
use Rattle.tss_phases.proofs.Tests.{both}
use Rattle.tss_control.proofs.rounds.ReadersKept.{SameForReaders, same_version}

-- ---- versions that keep what readers make of them

-- the final number of readers, where a version has a successor
abbrev last_of : Option Follow → Option ℕ
last_of f = option_map (λ (f : Follow). f.last) f

-- a version keeps this with its final number
pub record KeepsCounts (y z : Version) : Type 0 where
  pub same : SameForReaders y z
  pub last : last_of z.successor ≡ last_of y.successor

-- it is done: as many have released it as it was to have
abbrev IsDone : Version → Type 0
IsDone y = (f : Follow) × (y.successor ≡ Some f) × (y.released ≡ f.last)

some_last : (f : Option Follow) (n : ℕ) → last_of f ≡ Some n → (h : Follow) × (f ≡ Some h) × (h.last ≡ n)
some_last None n e = absurd (none-some n e)
some_last (Some h) n e = (h, refl, same_Some h.last n e)

done_before : (y z : Version) → KeepsCounts y z → IsDone z → IsDone y
done_before y z k d =
    let h = some_last y.successor d.0.last (sym k.last ∙ ap last_of d.1) in
    (h.0, h.1, sym k.same.released ∙ d.2 ∙ sym h.2)

same_after : (x y z : Version) → SameForReaders x y → SameForReaders y z → SameForReaders x z
same_after x y z h k = record {
  object = k.object ∙ h.object;
  produced = k.produced ∙ h.produced;
  registered = k.registered ∙ h.registered;
  released = k.released ∙ h.released;
  head = k.head ∙ h.head;
  tail = k.tail ∙ h.tail;
}

counts_after : (x y z : Version) → KeepsCounts x y → KeepsCounts y z → KeepsCounts x z
counts_after x y z h k = record { same = same_after x y z h.same k.same; last = k.last ∙ h.last }

counts_same : (y : Version) → KeepsCounts y y
counts_same y = record { same = same_version y y refl; last = refl }

-- ---- versions that become fewer

-- each that is there was there, and each that was there is, or is done
pub record Thins (vs us : Named Version) : Type 0 where
  pub from : (w : OpName) (z : Version) → get us w ≡ Some z → (y : Version) × (get vs w ≡ Some y) × KeepsCounts y z
  pub stay : (w : OpName) (y : Version) → get vs w ≡ Some y
      → ((z : Version) × (get us w ≡ Some z) × KeepsCounts y z) ⊎ IsDone y

thins_same : (vs : Named Version) → Thins vs vs
thins_same vs = record { from = λ w z e. (z, e, counts_same z); stay = λ w y e. inl (y, e, counts_same y) }

thins_after : (vs us ws : Named Version) → Thins vs us → Thins us ws → Thins vs ws
thins_after vs us ws h k = record {
  from = λ w z e.
      let f = k.from w z e in
      let b = h.from w f.0 f.1 in
      (b.0, b.1, counts_after b.0 f.0 z b.2 f.2);
  stay = λ w y e. elim (h.stay w y e) [
    | inr d ↦ inr d
    | inl s ↦ elim (k.stay w s.0 s.1) [
      | inl t ↦ inl (t.0, t.1, counts_after y s.0 t.0 s.2 t.2)
      | inr d ↦ inr (done_before y s.0 s.2 d)
    ]
  ];
}

thins_put : (vs : Named Version) (v : OpName) (x z : Version) → get vs v ≡ Some x → KeepsCounts x z
    → Thins vs (put_version vs v z)
thins_put vs v x z at k = record {
  from = λ w y e. elim (from_inserted name_order vs v z w y e) [
    | inl p ↦ (x, ap (get vs) p.0 ∙ at, subst (KeepsCounts x) (sym p.1) k)
    | inr p ↦ (y, p.1, counts_same y)
  ];
  stay = λ w y e. elim (decide_key name_order w v) [
    | inl same ↦ inl (
      z,
      ap (get (insert vs v z)) same ∙ at_inserted name_order vs v z,
      subst (λ x. KeepsCounts x z) (same_Some x y (sym at ∙ ap (get vs) (sym same) ∙ e)) k,
    )
    | inr apart ↦ inl (y, beside_inserted name_order vs v z w apart ∙ e, counts_same y)
  ];
}

thins_drop : (vs : Named Version) (v : OpName) (x : Version) → get vs v ≡ Some x → IsDone x
    → Thins vs (drop_version vs v)
thins_drop vs v x at d = record {
  from = λ w y e. let p = from_removed name_order vs v w y e in (y, p.1, counts_same y);
  stay = λ w y e. elim (decide_key name_order w v) [
    | inl same ↦ inr (subst IsDone (same_Some x y (sym at ∙ ap (get vs) (sym same) ∙ e)) d)
    | inr apart ↦ inl (y, beside_removed name_order vs v w apart ∙ e, counts_same y)
  ];
}

module _ (f : Version → Version) (keeps : (x : Version) → KeepsCounts x (f x)) where
  thins_changed : (vs : Named Version) (v : OpName) (x : Option Version) → get vs v ≡ x
      → Thins vs (version_changed vs v f x)
  thins_changed vs v None e = thins_same vs
  thins_changed vs v (Some x) e = thins_put vs v x (f x) e (keeps x)

  thins_change : (vs : Named Version) (v : OpName) → Thins vs (change_version vs v f)
  thins_change vs v = thins_changed vs v (get vs v) refl

  thins_named : (vs : Named Version) (v : Option OpName) → Thins vs (change_named vs v f)
  thins_named vs None = thins_same vs
  thins_named vs (Some v) = thins_change vs v

same_last : (s : OpName) (f : Option Follow) → last_of (followed_by s f) ≡ last_of f
same_last s None = refl
same_last s (Some f) = refl

keeps_bridged : (s : OpName) (q : Version) → KeepsCounts q (record q { successor = followed_by s q.successor })
keeps_bridged s q = record {
  same = record { object = refl; produced = refl; registered = refl; released = refl; head = refl; tail = refl };
  last = same_last s q.successor;
}

keeps_moved : (p : Option OpName) (y : Version) → KeepsCounts y (record y { predecessor = p })
keeps_moved p y = record {
  same = record { object = refl; produced = refl; registered = refl; released = refl; head = refl; tail = refl };
  last = refl;
}

keeps_stored : (s : Option StorageName) (y : Version) → KeepsCounts y (record y { storage = s })
keeps_stored s y = record {
  same = record { object = refl; produced = refl; registered = refl; released = refl; head = refl; tail = refl };
  last = refl;
}

keeps_asked : (n : Option ℕ) (y : Version) → KeepsCounts y (record y { asked = n })
keeps_asked n y = record {
  same = record { object = refl; produced = refl; registered = refl; released = refl; head = refl; tail = refl };
  last = refl;
}

thins_unlinked : (vs : Named Version) (v : OpName) (x : Version) (s : OpName) → get vs v ≡ Some x → IsDone x
    → Thins vs (unlinked vs v x s)
thins_unlinked vs v x s at d =
    let bridge : Version → Version = λ q. record q { successor = followed_by s q.successor } in
    let q = change_named (drop_version vs v) x.predecessor bridge in
    thins_after vs (drop_version vs v) (unlinked vs v x s) (thins_drop vs v x at d)
    (thins_after (drop_version vs v) q (unlinked vs v x s)
    (thins_named bridge (keeps_bridged s) (drop_version vs v) x.predecessor)
    (thins_change (λ y. record y { predecessor = x.predecessor }) (keeps_moved x.predecessor) q s))

-- ---- settle

equal_numbers : (a b : ℕ) → (a == b) ≡ true → a ≡ b
equal_numbers a b e = grind (arith, nat_tests)

-- a version that may die is done
done_from_test : (x : Version) (f : Follow) → x.successor ≡ Some f → may_die x f.last ≡ true → IsDone x
done_from_test x f to e =
    let t = both (x.produced && (x.released == f.last)) (is_none x.asked) e in
    (f, to, equal_numbers x.released f.last (both x.produced (x.released == f.last) t.0).1)

module _ (vs : Named Version) (v : OpName) (next : Settling)
    (on : (us : Named Version) (w : OpName) → Thins us (next us w).part) where
  thins_how : (x : Version) (f : Follow) (h : How) → get vs v ≡ Some x → IsDone x
      → Thins vs (settle_how vs v x f next h).part
  thins_how x f Beside at d =
      let us = unlinked vs v x f.version in
      thins_after vs us (next us f.version).part (thins_unlinked vs v x f.version at d) (on us f.version)
  thins_how x f Over at d =
      let us = unlinked vs v x f.version in
      thins_after vs us (settle_how vs v x f next Over).part (thins_unlinked vs v x f.version at d)
      (thins_change (λ y. record y { storage = x.storage }) (keeps_stored x.storage) us f.version)

  thins_dying : (x : Version) (f : Follow) → get vs v ≡ Some x → x.successor ≡ Some f → (b : Bool)
      → may_die x f.last ≡ b → Thins vs (if b then settle_how vs v x f next f.how else unchanged vs).part
  thins_dying x f at to true e = thins_how x f f.how at (done_from_test x f to e)
  thins_dying x f at to false e = thins_same vs

  thins_asking : (x : Version) → get vs v ≡ Some x → (b : Bool)
      → Thins vs (if b then settle_asking vs v x else unchanged vs).part
  thins_asking x at true =
      thins_put vs v x (record x { asked = Some x.registered }) at (keeps_asked (Some x.registered) x)
  thins_asking x at false = thins_same vs

  thins_by : (x : Version) → get vs v ≡ Some x → (f : Option Follow) → x.successor ≡ f
      → Thins vs (settle_by vs v x next f).part
  thins_by x at None to = thins_asking x at (may_ask x)
  thins_by x at (Some f) to = thins_dying x f at to (may_die x f.last) refl

  thins_at : (x : Option Version) → get vs v ≡ x → Thins vs (settle_at vs v next x).part
  thins_at None at = thins_same vs
  thins_at (Some x) at = thins_by x at x.successor refl

-- a settle makes versions fewer
pub thins_settle : (n : ℕ) (vs : Named Version) (v : OpName) → Thins vs (settle n vs v).part
unfolding settle
thins_settle zero vs v = thins_same vs
thins_settle (suc n) vs v = thins_at vs v (settle n) (λ us w. thins_settle n us w) (get vs v) refl
