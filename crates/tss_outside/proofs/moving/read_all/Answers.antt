-- What was read is all that the reader had, where it is no more than may be.
use Rattle.std.proofs.Common.{◌≡◌, ℕ, ◌<◌, ◌≤◌, List, [], ◌++◌, length, take, Option, Some, None, ap, ◌∙◌, subst, arith, rules}
use Rattle.std.specs.Prelude.{IfSome, option_map}
use Rattle.std.proofs.lemmas.List.{length-take, take_all}
use Rattle.tss_outside.proofs.moving.read_all.Goals as goal

-- a list that is shorter than what may be taken of another is all of it
all_taken : (items xs : List ℕ) (most : ℕ) → items ≡ take most xs → length items < most → items ≡ xs
all_taken items xs most e short =
    let len = ap length e ∙ length-take most xs in
    e ∙ take_all most xs (omega (arith, len, short))

known : (had : Option (List ℕ)) (old items : List ℕ) (most : ℕ) → old ≡ [] →
    IfSome (option_map (take most) had) (λ xs. items ≡ old ++ xs) → length items < most → IfSome had (λ xs. items ≡ xs)
known None old items most none h short = tt
known (Some xs) old items most none h short = all_taken items xs most (h ∙ ap (λ l. l ++ take most xs) none) short

pub returns-in-Ok-2 : goal.returns-in-Ok-2
returns-in-Ok-2 g c =
    let buf = c.read_to_end.new.buf in
    let few : length buf.items ≤ c.args.limit = search rules in
    let small = buf.small in
    let most = c.take.ensures.limit ∙ c.saturating_add.ensures in
    let short : length buf.items < c.take.result.limit = omega (arith, few, small, buf.ok.0, buf.ok.1, most) in (
      subst (λ had. IfSome had (λ xs. buf.items ≡ xs)) (ap g.R.Read.remaining c.take.ensures.inner)
          (known (g.R.Read.remaining c.take.result.inner) c.new-bytes.result.items buf.items c.take.result.limit
          c.new-bytes.ensures.items c.in-Ok-2.ensures.bytes short),
      few,
    )
