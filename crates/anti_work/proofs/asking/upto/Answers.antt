-- The pass of the object is told at the shared object at its place.
use Rattle.std.proofs.Common.{[], refl, sym, ap, ◌∙◌, append-nil, arith}
use Rattle.anti_object.specs.declared.object.Object.{Object}
use Rattle.anti_object.proofs.News.{found}
use Rattle.anti_shared.specs.Passes.{PassView}
use Rattle.anti_work.proofs.asking.upto.Goals as goal

pub returns : goal.returns
returns c =
    let pass = c.index_mut-pass.result.now in
    let told = c.upto-upto.ensures.pass in
    record {
      used = record {
        pass = pass;
        after = c.upto-upto.new.pass;
        was = found c.args.passes.now.items c.args.passes.now.items c.args.object pass refl (omega (arith, c.requires.there, c.requires.of.count)) c.index_mut-pass.ensures.value;
        is = refl;
        id_is = ap (λ (p : PassView Object). p.id) told;
        number_is = ap (λ (p : PassView Object). p.number) told;
        ended_is = ap (λ (p : PassView Object). p.ended) told;
        front = ([], ap (λ (p : PassView Object). p.seen) told ∙ sym (append-nil pass.seen));
        knows = c.number-number.ensures.knows;
      };
      after_is = told ∙ (λ i. record pass { loaded = (sym told i).loaded; loads = (sym told i).loads });
    }
