use Rattle.std.proofs.Common.{ℕ, [], ap, ◌∙◌}
use Rattle.std.specs.Global.{Vec}
use Rattle.std.specs.Option.{option_map_or}
use Rattle.anti_session.proofs.Indexing.{noted_places}
use Rattle.anti_session.proofs.session_index.SessionIndex.places.Goals as goal

pub returns-in-Some : goal.returns-in-Some
returns-in-Some c = λ trace is.
    c.as_slice.ensures.value
    ∙ ap (λ found. option_map_or (λ (v : Vec ℕ). v.items) found []) c.in-Some.ensures.value
    ∙ noted_places trace c.args.self.now.spans is.spans c.args.birth c.args.span

pub returns-in-None : goal.returns-in-None
returns-in-None c = λ trace is.
    ap (λ found. option_map_or (λ (v : Vec ℕ). v.items) found []) c.in-None.ensures.value
    ∙ noted_places trace c.args.self.now.spans is.spans c.args.birth c.args.span
