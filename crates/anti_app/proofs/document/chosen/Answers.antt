use Rattle.std.proofs.Common.{sym, subst}
use Rattle.toml.specs.View.{view, table_view}
use Rattle.anti_app.specs.inner.Few.{AreFew}
use Rattle.anti_app.proofs.Numberable.{few_choices_listed, few_things_named}
use Rattle.anti_app.proofs.document.chosen.Goals as goal

pub choices_of-requires-clause-named : goal.choices_of-requires-clause-named
choices_of-requires-clause-named c = subst AreFew (sym c.in_ok-app.ensures) (few_things_named (table_view c.args.doc.now) c.requires.fine)

pub choices_of-requires-clause-few : goal.choices_of-requires-clause-few
choices_of-requires-clause-few c = few_choices_listed view c.things_at.result.now (table_view c.args.doc.now) c.requires.fine c.things_at.ensures
