-- Two worked applications: of one, which is not placed, a read is not settled; of the other each read is.
use Rattle.std.proofs.Common.{◌≡◌, refl}
use Rattle.std.specs.Prelude.{codes}
use Rattle.anti_lang.specs.Program.{Nack}
use Rattle.anti_lang.proofs.PlainLemmas.{step_again}
use Rattle.anti_place.specs.Placements.{placement}
use Rattle.anti_place.specs.declared.placement.Placement.TheVariants.{No}
use Rattle.anti_place.specs.declared.reason.Reason.TheVariants.{Unsettled}
use Rattle.law_causal.specs.Settled.{IsSettled}
use Rattle.law_causal.specs.Words.{reads}
use Rattle.law_causal.proofs.WorkedForms.{read_as, write_to}
use Rattle.law_causal.proofs.WorkedLoss.{each_that, not_settled, read_own, short, unguarded}
use Rattle.law_causal.proofs.WorkedNote as note
use Rattle.law_placed.specs.Guarded.{AllSettled}

-- it reads behind its own write, with no barrier between
not_placed : placement unguarded ≡ No 0 0 2 Unsettled
not_placed = rw (step_again (write_to (codes "s") (codes "k") (codes "a")), step_again (read_as (codes "s") (codes "k") (codes "x")), step_again Nack) refl

not_all_settled : AllSettled unguarded short → ⊥
not_all_settled all = not_settled (all 2 read_own refl refl)

-- The one read of the note's process stands behind its barrier.
all_settled : AllSettled note.app note.trace
all_settled = each_that (λ e. reads e.call) (IsSettled note.app note.trace) note.trace (note.settled, tt)
