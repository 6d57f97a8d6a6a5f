-- A worked trace: a process writes, and makes a dry run before its write is shipped. The one look of the dry run names the write.
use Rattle.std.proofs.Common.{◌≡◌, true, false, List, [], ◌∷◌, Some, take, refl, ap, arith}
use Rattle.std.specs.Prelude.{codes}
use Rattle.anti_kind.specs.declared.call.Call.TheVariants as calls
use Rattle.anti_kind.specs.declared.call.Reply.TheVariants as replies
use Rattle.anti_kind.specs.declared.entry.Entry.{Entry}
use Rattle.anti_lang.specs.Bodies.{block_from}
use Rattle.anti_lang.specs.Program.{Block, DryRun, Nack}
use Rattle.anti_lang.proofs.PlainLemmas.{block_again}
use Rattle.anti_app.specs.declared.app.App.{App}
use Rattle.law_causal.specs.Settled.{AskedFor, is_visible_after, left_at}
use Rattle.law_causal.proofs.WorkedForms.{born_at, left_with, made, write_to}
use Rattle.law_causal.proofs.WorkedLoss.{app_of, first, its, write}

abbrev body : Block
body = block_from (write_to (codes "s") (codes "k") (codes "a") ∷ DryRun ∷ [])

abbrev app : App
app = app_of body (block_from (Nack ∷ []))

abbrev look : Entry
look = made 3 0 2 (born_at 1 1) 1 (calls.Look 0 (its ∷ []) true) (replies.Missing (its ∷ []) [])

abbrev trace : List Entry
trace = first ∷ write ∷ look ∷ []

-- The dry run is finished with its one look,
finished : left_at app trace 2 look ≡ Some []
finished = ap (left_with app trace 2 look) (block_again body)

-- which asked for the write
asked : AskedFor app trace 2 look its
asked = record {
  place = 2;
  look = look;
  there = refl;
  ids = its ∷ [];
  call = refl;
  asked = refl;
  store = refl;
  actor = refl;
  span = refl;
  carried = refl;
  upto = omega arith;
  since = λ i d from before at by none. omega (arith, from, before);
}

-- and named it, since it was not visible.
not_visible : is_visible_after app (take 2 trace) 0 its ≡ false
not_visible = refl
