-- A name that is there goes, and no other.
use Rattle.std.proofs.Common.{◌≡◌, Some, refl, sym, ap, subst, ◌∙◌}
use Rattle.std.specs.Prelude.{slice_get}
use Rattle.std.specs.FinMap.{get, remove, get-from_entries}
use Rattle.std.proofs.lemmas.Bool.{false≢true}
use Rattle.std.proofs.lemmas.Option.{none-some}
use Rattle.std.specs.FinMap.Entries.{find}
use Rattle.tss_base.specs.Names.{name_cmp, name_cmp_total}
use Rattle.tss_gateway.specs.Names.{names_in, pairs_of, set_of, AreLow}
use Rattle.tss_gateway.proofs.SetLemmas.{IsRising, find_there, set-removed, rising-removed, low-removed, names_removed}
use Rattle.tss_gateway.proofs.gateway.Gateway.ack.Goals as goal

pub invariant_of-self : goal.invariant_of-self
invariant_of-self c =
    let items = c.self.inside.held.items in
    let left = sym (ap names_in c.remove.ensures.items ∙ names_removed items c.in-Some.place) in
    record {
      narrow = c.self.invariant.narrow;
      few = c.self.invariant.few;
      rises = subst IsRising left (rising-removed (names_in items) c.in-Some.place c.self.invariant.rises);
      low = subst AreLow left (low-removed (names_in items) c.in-Some.place c.self.invariant.low);
    }

pub returns-in-Some-clause-blocked : goal.returns-in-Some-clause-blocked
returns-in-Some-clause-blocked c =
    let items = c.self.inside.held.items in
    let there = ap (λ xs. slice_get (names_in xs) c.in-Some.place) (sym c.as_slice.ensures.value) ∙ c.in-Some.ensures in
    let found : get c.args.self.now.gateway c.args.o ≡ Some tt =
    ap (λ g. get g.gateway c.args.o) (sym c.self.view_is)
    ∙ get-from_entries name_cmp_total (pairs_of (names_in items)) c.args.o
    ∙ find_there (names_in items) c.in-Some.place c.args.o c.self.invariant.rises there
    in
    (λ e. absurd (false≢true e), λ none. absurd (none-some tt (sym none ∙ found)))

pub returns-in-Some-clause-ok : goal.returns-in-Some-clause-ok
returns-in-Some-clause-ok c =
    let items = c.self.inside.held.items in
    let there = ap (λ xs. slice_get (names_in xs) c.in-Some.place) (sym c.as_slice.ensures.value) ∙ c.in-Some.ensures in
    let less = ap set_of (ap names_in c.remove.ensures.items ∙ names_removed items c.in-Some.place)
    ∙ set-removed (names_in items) c.in-Some.place c.args.o c.self.invariant.rises there
    ∙ ap (λ g. remove g.gateway c.args.o) c.self.view_is
    in
    λ i. record { window = (c.self.view_is i).window; inbox = (c.self.view_is i).inbox; gateway = less i }

pub returns-in-None-clause-blocked : goal.returns-in-None-clause-blocked
returns-in-None-clause-blocked c =
    let items = c.self.inside.held.items in (
      λ e. ap (λ g. get g.gateway c.args.o) (sym c.self.view_is)
          ∙ get-from_entries name_cmp_total (pairs_of (names_in items)) c.args.o
          ∙ ap (λ xs. find name_cmp c.args.o (pairs_of (names_in xs))) (sym c.as_slice.ensures.value)
          ∙ c.in-None.ensures,
      λ none. refl,
    )
