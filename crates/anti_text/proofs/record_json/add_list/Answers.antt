use Rattle.std.proofs.Common.{◌≡◌, ◌∷◌, ◌++◌, rules}
use Rattle.anti_text.proofs.Items.{list_added}
use Rattle.anti_text.proofs.record_json.add_list.Goals as goal

pub returns : goal.returns
returns g c =
    let parts : c.args.items.now ≡ c.in-Some.first.now ∷ c.in-Some.rest.now = search rules in
    rw parts (search (rules, list_added (g.T.Item.says c.args.printer.now.app.now) (c.args.out.now ++ c.args.before.now) c.in-Some.first.now c.in-Some.rest.now))
