use Rattle.std.proofs.Common.{◌≡◌, ℕ, ◌++◌, List, [], ◌∷◌, length, vec_len, sym, ap, ◌∙◌, subst, arith}
use Rattle.std.specs.Prelude.{◌==◌}
use Rattle.anti_kind.specs.declared.actor.Birth.{Birth}
use Rattle.anti_past.specs.declared.span_reads.ReadsOfSpan.{ReadsOfSpan}
use Rattle.anti_past.specs.inner.Keys.{span_of}
use Rattle.anti_session.specs.Members.{members}
use Rattle.anti_session.specs.Sessions.{is_requested}
use Rattle.anti_session.specs.inner.Listed.{AreListed}
use Rattle.anti_session.proofs.Listing.{not_listed, not_requested, one_listed, with_members, without_members}
use Rattle.anti_session.proofs.session_spans.add_session.Goals as goal

pub returns-then-not-is_requested : goal.returns-then-not-is_requested
returns-then-not-is_requested c = λ among are.
    let trace = c.args.trace.now in
    let span = span_of c.args.key in
    not_listed trace among span c.args.listed.now.items are
    (not_requested trace span (ap (is_requested trace) (sym c.birth-birth.ensures) ∙ sym c.is_requested.ensures
    ∙ c.if-not-is_requested.true))

pub returns-then-is_empty : goal.returns-then-is_empty
returns-then-is_empty c = λ among are.
    let trace = c.args.trace.now in
    let span = span_of c.args.key in
    let reads = c.in_ok-reads.reads in
    let count : vec_len reads ≡ length reads.items = omega (arith, reads.ok.0) in
    let its : reads.items ≡ members trace span.birth span.span = c.in_ok-reads.ensures
    ∙ ap (λ (b : Birth). members trace b span.span) c.birth-birth.ensures in
    not_listed trace among span c.args.listed.now.items are
    (without_members trace span (ap (is_requested trace) (sym c.birth-birth.ensures) ∙ sym c.is_requested.ensures
    ∙ c.if-not-is_requested.false)
    (ap (λ (xs : List ℕ). length xs == 0) (sym its) ∙ ap (λ (n : ℕ). n == 0) (sym count) ∙ sym c.is_empty.ensures ∙ c.if-is_empty.true))

pub returns : goal.returns
returns c = λ among are.
    let trace = c.args.trace.now in
    let span = span_of c.args.key in
    let reads = c.in_ok-reads.reads in
    let count : vec_len reads ≡ length reads.items = omega (arith, reads.ok.0) in
    let its : reads.items ≡ members trace span.birth span.span = c.in_ok-reads.ensures
    ∙ ap (λ (b : Birth). members trace b span.span) c.birth-birth.ensures in
    let session : ReadsOfSpan = record { span = record { birth = c.birth-birth.result; span = c.args.key.span }; reads = reads } in
    subst (λ (all : List ReadsOfSpan). AreListed trace (among ++ span ∷ []) all) (sym c.in_ok-push.ensures.items)
    (one_listed trace among span c.args.listed.now.items are session
    (ap (λ (b : Birth). record { birth = b; span = c.args.key.span }) c.birth-birth.ensures) its
    (with_members trace span (ap (is_requested trace) (sym c.birth-birth.ensures) ∙ sym c.is_requested.ensures
    ∙ c.if-not-is_requested.false)
    (ap (λ (xs : List ℕ). length xs == 0) (sym its) ∙ ap (λ (n : ℕ). n == 0) (sym count) ∙ sym c.is_empty.ensures ∙ c.if-is_empty.false)))
