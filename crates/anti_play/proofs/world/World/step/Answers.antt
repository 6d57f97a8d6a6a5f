use Rattle.std.proofs.Common.{◌≡◌, ◌≤◌, ◌<◌, ◌+◌, IsTrue, ℕ, Bool, length, get_or, sym, ap, ◌∙◌, subst, arith}
use Rattle.std.proofs.lemmas.Option.{get_or_from_slice_get}
use Rattle.std.proofs.lemmas.Result.{on_ok_weaker}
use Rattle.anti_ids.specs.declared.limits.TheConstants.{MOST_CHOICES}
use Rattle.anti_ids.specs.List.{Listed}
use Rattle.anti_ids.specs.ListCalls.{pushed}
use Rattle.anti_app.specs.declared.app.App.{App}
use Rattle.anti_app.specs.declared.app.Choice.TheVariants.{Take}
use Rattle.anti_app.specs.Sound.{is_sound}
use Rattle.anti_app.proofs.SoundLemmas.{app_known}
use Rattle.anti_play.specs.inner.Closing.{Steps, run_until}
use Rattle.anti_play.proofs.NewWorld.{added}
use Rattle.anti_play.proofs.HasPlayed.{sound_at, played_made, played_waited}
use Rattle.anti_play.proofs.world.World.step.Goals as goal
use Rattle.anti_play.proofs.world.World.step.Goals.{After-at}

-- the choice stands at its place
here : (c : After-at) → c.at.result.now ≡ get_or c.args.app.now.choices.items c.args.before (Take 0 0)
here c = sym (get_or_from_slice_get c.args.app.now.choices.items c.args.before c.at.result.now (Take 0 0) c.at.ensures)

-- the number of a choice is no more than there are
few : (app : App) (i : ℕ) → IsTrue (is_sound app) → i < length app.choices.items → i + 1 ≤ MOST_CHOICES
few app i sound lt = let known = (app_known app sound).few_choices in omega (arith)

pub overflow_cast-before : goal.overflow_cast-before
overflow_cast-before c =
    let less : c.args.before + 1 ≤ MOST_CHOICES = few c.args.app.now c.args.before c.requires.sound c.requires.there in
    omega arith

pub overflow_add-before : goal.overflow_add-before
overflow_add-before c =
    let less : c.args.before + 1 ≤ MOST_CHOICES = few c.args.app.now c.args.before c.requires.sound c.requires.there in
    omega arith

pub make-requires-clause-named : goal.make-requires-clause-named
make-requires-clause-named c =
    sound_at c.args.app.now c.args.before c.at.result.now (Take 0 0) c.requires.there (here ((goal.at.make-requires-clause-named c).After-at)) c.requires.sound

pub returns-then-branch : goal.returns-then-branch
returns-then-branch c =
    let app = c.args.app.now in
    let i = c.args.before in
    let choice = c.at.result.now in
    played_made app i choice (Take 0 0) c.requires.there (here ((goal.at.returns-then-branch c).After-at)) c.make.new.self c.args.waits.now c.requires.played.waits_are
    (subst (λ (made : Bool). Steps app (run_until app i) (i + 1) choice made c.make.new.self) c.if-branch.true (c.in_ok-make.ensures (run_until app i) (i + 1) c.requires.played.world))

pub returns : goal.returns
returns c =
    let app = c.args.app.now in
    let i = c.args.before in
    let choice = c.at.result.now in
    let waits = c.args.waits.now in
    let steps = subst (λ (made : Bool). Steps app (run_until app i) (i + 1) choice made c.make.new.self) c.if-branch.false (c.in_ok-make.ensures (run_until app i) (i + 1) c.requires.played.world) in
    on_ok_weaker c.add.result
    (λ (pushes : c.add.new.self ≡ pushed waits (i + 1)).
    played_waited app i choice (Take 0 0) c.requires.there (here ((goal.at.returns c).After-at)) c.make.new.self waits c.add.new.self c.requires.played.waits_are steps
    (pushes ∙ added waits (i + 1) (ap (λ (l : Listed ℕ). l.spare) c.requires.played.waits_are)))
    c.add.ensures.ok
