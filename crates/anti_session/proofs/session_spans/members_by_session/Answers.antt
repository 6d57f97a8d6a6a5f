use Rattle.std.proofs.Common.{List, map, ◌∙◌, subst}
use Rattle.std.proofs.lemmas.Result.{IfOk-weaker}
use Rattle.anti_past.specs.declared.span_keys.SpanKey.{SpanKey}
use Rattle.anti_past.specs.inner.Keys.{span_of}
use Rattle.anti_session.specs.inner.Listed.{AreListed}
use Rattle.anti_session.proofs.Listing.{are_sessions}
use Rattle.anti_session.proofs.session_spans.members_by_session.Goals as goal

pub returns : goal.returns
returns c =
    let trace = c.args.trace.now in
    let is = c.in_ok-index.ensures c.requires.0 c.requires.1 in
    IfOk-weaker c.sessions_among.result _ _
    (λ listed are. are_sessions trace c.in_ok-index.index.spans is.spans c.in_ok-keys.ensures.ordered listed.items
    (subst (λ (keys : List SpanKey). AreListed trace (map span_of keys) listed.items)
    (c.as_slice.ensures.value ∙ c.in_ok-keys.ensures.listed) are))
    c.sessions_among.ensures
