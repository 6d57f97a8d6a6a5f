use Rattle.std.proofs.Common.{◌≡◌, ℕ, Option, Some, map, arith, sym, ap, subst, ◌∙◌}
use Rattle.std.specs.Prelude.{is_some}
use Rattle.anti_kind.specs.Objects.{Start}
use Rattle.anti_live.specs.Clients.{LiveView, id_of_shared, starts_in}
use Rattle.anti_live.specs.Stores.{start_at}
use Rattle.anti_live.proofs.HereLemmas.{here_from_right}
use Rattle.anti_live.proofs.Places.{item_at}
use Rattle.anti_live.proofs.PassCalls.{are_passes, started_at}
use Rattle.anti_live.proofs.live.Live.port.Goals as goal

pub new-requires-2 : goal.new-requires-2
new-requires-2 g c =
    rw (c.as_slice.ensures.value, c.replace-taken.ensures.value)
    (are_passes c.self.inside.stores.items c.self.inside.shareds.items c.args.passes.now.items c.self.invariant.are_shared
    (c.requires ∙ ap (λ (v : LiveView). map id_of_shared v.shareds) (sym c.self.view_is)))

pub returns-clause-there : goal.returns-clause-there
returns-clause-there g c =
    let same = c.requires ∙ ap (λ (v : LiveView). map id_of_shared v.shareds) (sym c.self.view_is) in
    rw (← c.self.view_is, c.new-2.ensures, c.replace-taken.ensures.value)
    (λ o low. let s = item_at c.self.inside.stores.items o low in
    ap (λ (start : Option Start). is_some start) (started_at c.self.inside.stores.items c.self.inside.shareds.items c.args.passes.now.items c.self.invariant.are_shared same o s.0 s.1))

pub returns-clause-here : goal.returns-clause-here
returns-clause-here g c =
    let same = c.requires ∙ ap (λ (v : LiveView). map id_of_shared v.shareds) (sym c.self.view_is) in
    rw (← c.self.view_is, c.new-2.ensures, c.replace-taken.ensures.value)
    (λ region. here_from_right (starts_in c.args.passes.now.items) region 0 c.self.inside.stores.items
    (λ n s at. subst (λ (k : ℕ). starts_in c.args.passes.now.items k ≡ Some (start_at k s)) (omega arith)
    (started_at c.self.inside.stores.items c.self.inside.shareds.items c.args.passes.now.items c.self.invariant.are_shared same n s at)))
