use Rattle.std.proofs.Common.{◌≡◌, sym, ◌∙◌, subst}
use Rattle.anti_ids.specs.Ids.{with_id}
use Rattle.anti_ids.specs.Invariants.{IsAscending}
use Rattle.anti_ids.proofs.IdLemmas.{ascending_with}
use Rattle.anti_past.proofs.found_ids.put_at.Goals as goal

pub returns-in-Ok-clause-ascending : goal.returns-in-Ok-clause-ascending
returns-in-Ok-clause-ascending c =
    let now : c.insert.new.self.items ≡ with_id c.args.id c.args.ids.now.items = c.in-Ok.ensures.items ∙ sym c.requires.place.with in
    subst IsAscending (sym now) (ascending_with c.args.id c.args.ids.now.items c.requires.ascending)

pub returns-in-Ok-clause-ok : goal.returns-in-Ok-clause-ok
returns-in-Ok-clause-ok c = c.in-Ok.ensures.items ∙ sym c.requires.place.with
