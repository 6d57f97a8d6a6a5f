-- What is said of a handler, as the code tells it.
use Rattle.std.specs.Prelude.{ℕ, Bool, List, cond, [], ◌∷◌, map}
use Rattle.std.specs.List.{filter}
use Rattle.anti_lang.specs.Lines.{Line}
use Rattle.anti_lang.specs.Program.{Block}
use Rattle.anti_app.specs.declared.app.App.{App}
use Rattle.anti_place.specs.declared.remark.Remark.{Remark}
use Rattle.anti_place.specs.declared.reviewing.Subject.{Subject}
use Rattle.anti_place.specs.declared.reviewing.Subject.TheVariants.{Faults, Barriers}
use Rattle.anti_place.specs.Reviews.{superfluous_there, never_waits, barriers_from, faults_at, barriers_at}

-- the barrier at a line of a body where it never has to wait, and those among some lines of it
abbrev pub told_at : ℕ → ℕ → Bool → Block → ℕ → List Remark
told_at service handler named body line = cond (never_waits named body line) (superfluous_there service handler line ∷ []) []

abbrev pub told_lines : ℕ → ℕ → Bool → Block → ℕ → List Line → List Remark
told_lines service handler named body line lines = map (superfluous_there service handler) (filter (never_waits named body) (barriers_from line lines))

-- what is said of a handler, by what it is about
abbrev pub said : Subject → App → ℕ → ℕ → Block → List Remark
said Faults app service handler body = faults_at app service handler body
said Barriers app service handler body = barriers_at app service handler body
