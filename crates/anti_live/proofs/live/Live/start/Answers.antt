use Rattle.std.proofs.Common.{◌≡◌, ◌≤◌, List, length, ap, ◌∙◌, subst, arith}
use Rattle.anti_live.specs.declared.stores.LiveStore.{LiveStore}
use Rattle.anti_live.specs.Stores.{here_of}
use Rattle.anti_live.specs.Clients.{ClientView, IsClient, LiveView}
use Rattle.anti_live.proofs.Firsts.{first_client}
use Rattle.anti_live.proofs.live.Live.start.Goals as goal

pub returns-clause-client : goal.returns-clause-client
returns-clause-client c =
    let live : LiveView = record { stores = c.args.stores.items; shareds = c.in_ok-shareds.shareds.items } in
    let client = c.client_of-client.result in
    let made = c.client_of-client.ensures in
    let count : length live.shareds ≡ length live.stores = c.in_ok-shareds.ensures.shared.count ∙ ap (λ (stores : List LiveStore). length stores) c.as_slice-3.ensures in
    let some : 1 ≤ length live.shareds = omega (arith, count, c.requires.stores.some) in
    let here = c.in_ok-here.ensures ∙ ap (here_of c.args.region) c.as_slice-2.ensures in
    first_client live c.args.region client some (made.passes ∙ c.in_ok-shareds.ensures.firsts) made.region (made.here ∙ here) made.lineage made.span made.clock
    (subst (λ (view : ClientView). IsClient view.passes view.who) c.client.view_is c.client.invariant)
