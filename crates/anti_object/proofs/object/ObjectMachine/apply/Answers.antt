use Rattle.std.proofs.Common.{subst}
use Rattle.anti_object.specs.declared.object.Object.{Object}
use Rattle.anti_object.specs.Standing.{MayApply}
use Rattle.anti_object.proofs.object.ObjectMachine.apply.Goals as goal

pub apply-requires : goal.apply-requires
apply-requires c = subst (λ (o : Object). MayApply o c.args.c.now c.args.reply.now) c.in-Kv.is c.requires

pub apply-requires-in-Table : goal.apply-requires-in-Table
apply-requires-in-Table c = subst (λ (o : Object). MayApply o c.args.c.now c.args.reply.now) c.in-Table.is c.requires

pub apply-requires-in-Blob : goal.apply-requires-in-Blob
apply-requires-in-Blob c = subst (λ (o : Object). MayApply o c.args.c.now c.args.reply.now) c.in-Blob.is c.requires

pub apply-requires-in-Queue : goal.apply-requires-in-Queue
apply-requires-in-Queue c = subst (λ (o : Object). MayApply o c.args.c.now c.args.reply.now) c.in-Queue.is c.requires

pub apply-requires-in-Topic : goal.apply-requires-in-Topic
apply-requires-in-Topic c = subst (λ (o : Object). MayApply o c.args.c.now c.args.reply.now) c.in-Topic.is c.requires

pub apply-requires-in-Cached : goal.apply-requires-in-Cached
apply-requires-in-Cached c = subst (λ (o : Object). MayApply o c.args.c.now c.args.reply.now) c.in-Cached.is c.requires

pub apply-requires-in-Inbox : goal.apply-requires-in-Inbox
apply-requires-in-Inbox c = subst (λ (o : Object). MayApply o c.args.c.now c.args.reply.now) c.in-Inbox.is c.requires
