use Rattle.std.proofs.Common.{◌≡◌, ◌++◌, ◌∷◌, [], sym, subst}
use Rattle.std.specs.Prelude.{OnOk}
use Rattle.anti_ids.specs.List.{Listed}
use Rattle.anti_kind.specs.declared.entry.Entry.{Entry}
use Rattle.anti_object.specs.Standing.{ObjectAt}
use Rattle.anti_play.specs.inner.Kepts.{at_last}
use Rattle.anti_play.proofs.first_world.keep.Goals as goal

pub keep_with-requires : goal.keep_with-requires
keep_with-requires c = subst (λ (h : Listed Entry). ObjectAt c.args.object h.items) (sym c.new.ensures) c.requires

pub returns : goal.returns
returns c =
    subst (λ (h : Listed Entry). OnOk c.keep_with.result (c.keep_with.new.objects.items ≡ c.args.objects.now.items ++ at_last (c.args.object, h) ∷ [])) c.new.ensures
    c.keep_with.ensures
