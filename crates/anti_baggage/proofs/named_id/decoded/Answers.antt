use Rattle.std.proofs.Common.{◌≡◌, ℕ, List, take, ap, ◌∙◌, arith, rules}
use Rattle.std.specs.Result.{result_ok}
use Rattle.percent_encoding.specs.Percent.{percent_decode}
use Rattle.anti_ids.specs.Names.{name_of}
use Rattle.anti_baggage.proofs.Readable.{name_read, one_more, full, all_read}
use Rattle.anti_baggage.proofs.named_id.decoded.Goals as goal

pub returns-then-len-eq-LONGEST_NAME : goal.returns-then-len-eq-LONGEST_NAME
returns-then-len-eq-LONGEST_NAME c =
    let kept = c.loop-byte.invariant in
    full c.loop-byte.bytes _ _ (percent_decode c.args.text.now) c.loop-byte.len c.in-Some.byte c.if-len-eq-LONGEST_NAME.true kept.size c.in-Some.ensures.steps kept.parts

pub loop-byte-preserved : goal.loop-byte-preserved
loop-byte-preserved c =
    let kept = c.loop-byte.invariant in
    record {
      parts = one_more c.loop-byte.bytes _ _ (percent_decode c.args.text.now) c.loop-byte.len c.in-Some.byte (omega (arith, kept.within, kept.size, c.if-len-eq-LONGEST_NAME.false)) c.in-Some.ensures.steps kept.parts;
      within = omega (arith, kept.within, c.if-len-eq-LONGEST_NAME.false);
      size = search rules;
    }

pub returns : goal.returns
returns c =
    let kept = c.loop-byte.invariant in
    let whole : take c.loop-byte.len c.loop-byte.bytes ≡ percent_decode c.args.text.now = all_read c.loop-byte.bytes _ (percent_decode c.args.text.now) c.loop-byte.len c.in-None.ensures.steps.0 kept.parts in
    c.ok.ensures.value ∙ ap result_ok c.new.ensures ∙ ap (λ (x : List ℕ). result_ok (name_of x)) whole ∙ name_read (percent_decode c.args.text.now)
