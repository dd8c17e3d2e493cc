-- What a decode finds follows from the laws.
use Rattle.std.proofs.Common.{◌≡◌, Some, None, refl, ap, ◌∙◌, inl, inr, arith}
use Rattle.std.specs.Prelude.{◌==◌, cond}
use Rattle.std.specs.FinMap.{get}
use Rattle.std.proofs.lemmas.Bool.{eq-eqb}
use Rattle.tss_base.specs.Names.{Named}
use Rattle.tss_base.specs.declared.operand.OpName.{OpName}
use Rattle.tss_base.specs.declared.operand.Operand.{Operand}
use Rattle.tss_maps.specs.Parts.{key_where}
use Rattle.tss_maps.proofs.Keys.{name_order}
use Rattle.tss_maps.proofs.Changes.{decide_get}
use Rattle.tss_maps.proofs.PartsLemmas.{get-keys_where}
use Rattle.tss_protocol.specs.Names.{bank_of}
use Rattle.tss_names.proofs.CountEvents.{readers_of_runs}
use Rattle.tss_control.proofs.rounds.EntriesNames.{object_of_entry, not_decoded}
use Rattle.tss_conditions.specs.Decoding.{DecodingLaw}
use Rattle.tss_conditions.proofs.Known.{facts_reached}
use Rattle.tss_conditions.proofs.Holding.{few_operands}

-- nothing is held under a name whose operand hasn't been decoded
not_held : {X : Type 0} → (held : Named X) (o : OpName) → ((x : X) → get held o ≡ Some x → ⊥) → get held o ≡ None
not_held held o none = elim (decide_get held o) [
  | inl e ↦ e
  | inr x ↦ absurd (none x.0 x.1)
]

pub decodable : DecodingLaw
decodable m i S o p r there =
    let facts = facts_reached m i S r in
    let orderly = facts.control.orderly in
    let counts = readers_of_runs m i r.reachable.0 S r.accepted r.admissible r.reachable.1 in
    let most = few_operands m r.admissible in
    let bank = bank_of m.sizes p.object in
    record {
      place = not_held S.places o
          (λ n e. not_decoded m S facts.basis orderly o p there (facts.ground.names.places o n e));
      buffer = not_held S.buffers o
          (λ n e. not_decoded m S facts.basis orderly o p there (facts.ground.names.buffers o n e));
      object = object_of_entry m S facts.basis orderly facts.control.entries o p there;
      uses = λ base e at. let few = counts.sent base e at in omega (arith, few, most);
      line =
          get-keys_where name_order (λ o p. bank_of m.sizes p.object == bank) S.mail.decodes o
          ∙ ap (key_where (λ o (p : Operand). bank_of m.sizes p.object == bank) o) there
          ∙ ap (λ b. cond b (Some tt) None) (eq-eqb bank bank refl);
    }
