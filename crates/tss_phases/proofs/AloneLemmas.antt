-- Where at most one message is under way for an operand, no other is beside one that is there.
use Rattle.std.proofs.Common.{◌≡◌, ◌≤◌, Bool, Option, Some, None, refl, ap, arith}
use Rattle.std.specs.Prelude.{is_some}
use Rattle.tss_base.specs.declared.operand.Operand.{Operand}
use Rattle.tss_base.specs.declared.operand.OpName.{OpName}
use Rattle.tss_maps.specs.Sums.{one_if}
use Rattle.tss_protocol.specs.Mail.{Source, OpenContents, ReleaseContents}
use Rattle.tss_phases.specs.Phase.{LookUps}
use Rattle.tss_phases.specs.Alone.{under_way, IsSilent}

none_by : {X : Type 0} (x : Option X) → one_if (is_some x) ≡ 0 → x ≡ None
none_by None e = refl
none_by (Some x) e = absurd (omega (arith, e))

-- where no message is under way, there is none of any kind
silent_of : (l : LookUps) → under_way l ≡ 0 → IsSilent l
silent_of l e = record {
  decoding = none_by l.decoding (omega (arith, e));
  opening = none_by l.opening (omega (arith, e));
  using = none_by l.using (omega (arith, e));
  telling = none_by l.telling (omega (arith, e));
  releasing = none_by l.releasing (omega (arith, e));
  leaving = none_by l.leaving (omega (arith, e));
}

-- where the one message is a decode, no other is under way
pub silent_but_decoding : (l : LookUps) (x : Operand) → under_way l ≤ 1 → l.decoding ≡ Some x
    → IsSilent (record l { decoding = None })
silent_but_decoding l x h e =
    let one = ap (λ o. one_if (is_some o)) e in silent_of (record l { decoding = None }) (omega (arith, h, one))

-- the same of an open
pub silent_but_opening : (l : LookUps) (x : OpenContents) → under_way l ≤ 1 → l.opening ≡ Some x
    → IsSilent (record l { opening = None })
silent_but_opening l x h e =
    let one = ap (λ o. one_if (is_some o)) e in silent_of (record l { opening = None }) (omega (arith, h, one))

-- of a use
pub silent_but_using : (l : LookUps) (x : OpName) → under_way l ≤ 1 → l.using ≡ Some x
    → IsSilent (record l { using = None })
silent_but_using l x h e =
    let one = ap (λ o. one_if (is_some o)) e in silent_of (record l { using = None }) (omega (arith, h, one))

-- of a ready
pub silent_but_telling : (l : LookUps) (x : Source) → under_way l ≤ 1 → l.telling ≡ Some x
    → IsSilent (record l { telling = None })
silent_but_telling l x h e =
    let one = ap (λ o. one_if (is_some o)) e in silent_of (record l { telling = None }) (omega (arith, h, one))

-- of a release
pub silent_but_releasing : (l : LookUps) (x : ReleaseContents) → under_way l ≤ 1 → l.releasing ≡ Some x
    → IsSilent (record l { releasing = None })
silent_but_releasing l x h e =
    let one = ap (λ o. one_if (is_some o)) e in silent_of (record l { releasing = None }) (omega (arith, h, one))

-- of a bye
pub silent_but_leaving : (l : LookUps) (x : Bool) → under_way l ≤ 1 → l.leaving ≡ Some x
    → IsSilent (record l { leaving = None })
silent_but_leaving l x h e =
    let one = ap (λ o. one_if (is_some o)) e in silent_of (record l { leaving = None }) (omega (arith, h, one))

one_at_most : {X : Type 0} (x : Option X) → one_if (is_some x) ≤ 1
one_at_most None = omega arith
one_at_most (Some x) = omega arith

no_one : {X : Type 0} (x : Option X) → x ≡ None → one_if (is_some x) ≡ 0
no_one x e = ap (λ x. one_if (is_some x)) e

-- where there is none of any kind, no message is under way
none_under_way : (l : LookUps) → IsSilent l → under_way l ≡ 0
none_under_way l s =
    omega (
      arith,
      no_one l.decoding s.decoding,
      no_one l.opening s.opening,
      no_one l.using s.using,
      no_one l.telling s.telling,
      no_one l.releasing s.releasing,
      no_one l.leaving s.leaving,
    )

-- and the other way round: where no other message is beside a decode, at most one is under way
pub alone_decoding : (l : LookUps) → IsSilent (record l { decoding = None }) → under_way l ≤ 1
alone_decoding l s = omega (arith, one_at_most l.decoding, none_under_way (record l { decoding = None }) s)

-- the same of an open
pub alone_opening : (l : LookUps) → IsSilent (record l { opening = None }) → under_way l ≤ 1
alone_opening l s = omega (arith, one_at_most l.opening, none_under_way (record l { opening = None }) s)

-- of a use
pub alone_using : (l : LookUps) → IsSilent (record l { using = None }) → under_way l ≤ 1
alone_using l s = omega (arith, one_at_most l.using, none_under_way (record l { using = None }) s)

-- of a ready
pub alone_telling : (l : LookUps) → IsSilent (record l { telling = None }) → under_way l ≤ 1
alone_telling l s = omega (arith, one_at_most l.telling, none_under_way (record l { telling = None }) s)

-- of a release
pub alone_releasing : (l : LookUps) → IsSilent (record l { releasing = None }) → under_way l ≤ 1
alone_releasing l s = omega (arith, one_at_most l.releasing, none_under_way (record l { releasing = None }) s)

-- of a bye
pub alone_leaving : (l : LookUps) → IsSilent (record l { leaving = None }) → under_way l ≤ 1
alone_leaving l s = omega (arith, one_at_most l.leaving, none_under_way (record l { leaving = None }) s)
