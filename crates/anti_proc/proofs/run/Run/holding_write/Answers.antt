use Rattle.std.proofs.Common.{◌≡◌, ℕ, Bool, true, false, List, [], ◌++◌, Option, ap, ◌∙◌}
use Rattle.std.specs.Prelude.{unwrap_or}
use Rattle.std.specs.Option.{option_map_or}
use Rattle.std.proofs.lemmas.Result.{IfOk-weaker}
use Rattle.anti_ids.specs.declared.id.WriteId.{WriteId}
use Rattle.anti_kind.specs.declared.call.Reply.TheVariants.{Written}
use Rattle.anti_proc.specs.declared.variables.Binding.TheVariants.{Wrote}
use Rattle.anti_proc.specs.Local.{Local, id_at, set}
use Rattle.anti_proc.specs.Meaning.{Go, after_write, carry}
use Rattle.anti_proc.specs.inner.Standing.{going, local_by, local_of, setting}
use Rattle.anti_proc.proofs.run.Run.holding_write.Goals as goal

-- what a process knows next whose variable was set, where there is one
module _ (id : WriteId) (over : Option (List WriteId)) (variable : Option (List ℕ)) (l next : Local) (go : Go)
    (is : next ≡ option_map_or (λ name. set name (Wrote id (unwrap_or over l.carried)) l) variable l) where
  without_its_id : (untracked : Bool) → untracked ≡ true → go next ≡ after_write id.store variable untracked l go (Written id.key id.version over)
  without_its_id true on = ap go is
  without_its_id false on = absurd (cc)

  with_its_id : (untracked : Bool) → untracked ≡ false
      → carry (id_at id.store id.key id.version ++ unwrap_or over []) next go ≡ after_write id.store variable untracked l go (Written id.key id.version over)
  with_its_id true off = absurd (cc)
  with_its_id false off = ap (λ (known : Local). carry (id_at id.store id.key id.version ++ unwrap_or over []) known go) is

pub returns-then-untracked-clause-goes : goal.returns-then-untracked-clause-goes
returns-then-untracked-clause-goes c =
    let r = c.args.self.now in
    let l : Local = local_of r in
    let next : Local = local_by c.in_ok-changes.changes r.variables.items in
    let go : Go = going c.args.app.now r.given r.at.value.cursor in
    IfOk-weaker c.go_on.result _ _
    (λ a goes. goes ∙ without_its_id c.args.id.now c.args.over.now c.args.variable l next go (c.in_ok-changes.ensures ∙ c.in_ok-since.ensures l) c.args.untracked c.if-untracked.true)
    c.go_on.ensures.goes

pub returns-clause-goes : goal.returns-clause-goes
returns-clause-goes c =
    let r = c.args.self.now in
    let l : Local = local_of r in
    let next : Local = local_by c.in_ok-changes.changes r.variables.items in
    let go : Go = going c.args.app.now r.given r.at.value.cursor in
    IfOk-weaker c.go_on-2.result _ _
    (λ a goes. goes ∙ c.in_ok-stage.ensures.goes r.variables.items (setting c.args.app.now r.given) go
    ∙ with_its_id c.args.id.now c.args.over.now c.args.variable l next go (c.in_ok-changes.ensures ∙ c.in_ok-since.ensures l) c.args.untracked c.if-untracked.false)
    c.go_on-2.ensures.goes
