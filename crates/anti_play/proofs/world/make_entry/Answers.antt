use Rattle.std.proofs.lemmas.Result.{on_err_weaker, on_ok_weaker}
use Rattle.anti_play.proofs.MakeEntry.{may_make, all_grow, all_kept}
use Rattle.anti_play.proofs.world.make_entry.Goals as goal

pub make-requires-clause-follows : goal.make-requires-clause-follows
make-requires-clause-follows c = may_make _ _ _ c.index_mut.ensures.value c.requires.grow

pub returns-clause-stand : goal.returns-clause-stand
returns-clause-stand c = λ app before after all grows.
    on_ok_weaker c.make.result
    (λ made. all_grow _ c.args.due.entry _ _ c.index_mut.ensures.value c.requires.grow.known c.make.ensures.start made app before after all grows) c.make.ensures.made

pub returns-clause-err : goal.returns-clause-err
returns-clause-err c = λ app before all.
    on_err_weaker c.make.result
    (λ kept. all_kept _ c.args.due.entry _ _ c.index_mut.ensures.value c.requires.grow.known c.make.ensures.start kept app before all) c.make.ensures.err
