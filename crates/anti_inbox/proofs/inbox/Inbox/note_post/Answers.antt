use Rattle.std.proofs.Common.{◌+◌, ◌++◌, ◌∷◌, [], length, get_or, set, ◌-◌, subst, arith}
use Rattle.anti_kind.specs.declared.message.Message.{Message}
use Rattle.anti_inbox.specs.inner.Fates.{answered, untouched}
use Rattle.anti_inbox.specs.inner.Inboxes.{Turns}
use Rattle.anti_inbox.proofs.Outcomes.{on_ok, on_err, both_ways}
use Rattle.anti_inbox.proofs.Reading.{answering_within, its_few, few_came}
use Rattle.anti_inbox.proofs.Noting.{keeps, keeps_more, knows_same, knows_answered, knows_posted}
use Rattle.anti_inbox.proofs.inbox.Inbox.note_post.Goals as goal

pub answer-requires-clause-within : goal.answer-requires-clause-within
answer-requires-clause-within c =
    (answering_within c.args.self.now c.requires.may.history c.args.message.now c.requires.may.stands_for c.requires.may.is_ready c.in-Reply.is).1

pub post-requires : goal.post-requires
post-requires c =
    let m = c.args.self.now in let h = c.requires.may.history in let at = c.requires.may.stands_for in
    omega (arith, its_few m h at, few_came m h at)

pub returns-in-Reply-clause-ok : goal.returns-in-Reply-clause-ok
returns-in-Reply-clause-ok c = λ h e at f is.
    let m = c.args.self.now in
    let n = c.args.message.now.to in
    knows_answered m c.answer.new.self h e at f c.args.message.now is c.in-Reply.is
    (λ d. subst (λ (x : Message). Turns m c.answer.new.self m.messages.items (set m.fates.items (n - 1) (answered x (get_or m.fates.items (n - 1) d))) m.free.items)
    c.requires.same (c.answer.ensures d))

pub returns-in-Reply-clause-keeps : goal.returns-in-Reply-clause-keeps
returns-in-Reply-clause-keeps c =
    keeps c.args.self.now c.answer.new.self _ _ c.requires.may.stands_for.state.knows.requests_within (c.answer.ensures untouched)

pub returns-in_default : goal.returns-in_default
returns-in_default c =
    let m = c.args.self.now in
    let n = c.post.new.self in
    let within = c.requires.may.stands_for.state.knows.requests_within in
    record {
      ok = λ h e at f is.
          on_ok (λ turns.
          knows_posted m n h e at f c.args.message.now is c.in_default.not-Reply
          (subst (λ (x : Message). Turns m n (m.messages.items ++ x ∷ []) (m.fates.items ++ untouched ∷ []) (m.free.items ++ (length m.messages.items + 1) ∷ [])) c.requires.same turns))
          c.post.result c.post.ensures.ok;
      err = λ h knows. on_err (λ turns. knows_same m n h knows turns) c.post.result c.post.ensures.err;
      keeps = both_ways c.post.result c.post.ensures.ok c.post.ensures.err (λ turns. keeps_more m n _ _ _ within turns) (λ turns. keeps m n _ _ within turns);
    }
