use Rattle.std.proofs.Common.{length, not, ◌==◌, Ok, rules}
use Rattle.std.proofs.lemmas.Iterator.Consumers.{map_from_collect, YieldsList-from_filter}
use Rattle.std.proofs.lemmas.Iterator.Splits.{YieldsList-from_slice_split}
use Rattle.std.specs.declared.alloc.AllocError.{AllocError}
use borrow.Author.Tests.{tests}
use Rattle.anti_lang.proofs.split.words.Goals as goal

pub returns : goal.returns
returns c =
    map_from_collect {E = AllocError} {s = c.filter.result} (Ok c.in_ok-found.found) c.in_ok-found.ensures.ran
    (YieldsList-from_filter _ (λ piece. not (length piece == 0))
    (YieldsList-from_slice_split _ (λ b. b == 32) c.args.text.now (cc) (cc) (cc) (λ x b q k. search (rules, tests)))
    (cc) (λ x b q k. search (rules, tests)))
