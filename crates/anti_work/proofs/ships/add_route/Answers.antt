use Rattle.std.proofs.Common.{◌++◌, List, [], ◌∷◌, refl, ap, ◌∙◌}
use Rattle.anti_work.specs.declared.worker.Route.{Route}
use Rattle.anti_work.proofs.ships.add_route.Goals as goal

pub returns : goal.returns
returns c =
    let route : Route = record { store = c.args.store; region = c.args.region; next = 1; ahead = c.new.result } in
    record {
      route = route;
      is = c.push_reserved.ensures.items ∙ ap (λ (all : List Route). all ++ route ∷ []) c.reserve.ensures.items;
      ends = refl;
      fresh = record { next = refl; ahead = c.new.ensures.items };
    }
