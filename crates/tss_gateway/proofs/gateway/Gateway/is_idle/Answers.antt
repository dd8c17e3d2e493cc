-- The list of names is as long as their set.
use Rattle.std.proofs.Common.{length, sym, ap, ◌∙◌}
use Rattle.std.specs.Prelude.{◌==◌}
use Rattle.std.proofs.lemmas.List.{length-map}
use Rattle.std.specs.FinMap.{entries, len-entries}
use Rattle.tss_protocol.specs.Gateway.{is_idle}
use Rattle.tss_gateway.specs.Names.{names_in, set_of}
use Rattle.tss_gateway.proofs.SetLemmas.{length-names_in, keys-set_of}
use Rattle.tss_gateway.proofs.gateway.Gateway.is_idle.Goals as goal

pub returns : goal.returns
returns c =
    let items = c.self.inside.held.items in
    let names = names_in items in
    let count = len-entries (set_of names) ∙ sym (length-map (entries (set_of names)) (λ e. e.0))
    ∙ ap length (keys-set_of names c.self.invariant.rises) ∙ length-names_in items
    in
    c.is_empty.ensures ∙ ap (λ n. n == 0) (sym count) ∙ ap (λ g. is_idle g.gateway) c.self.view_is
