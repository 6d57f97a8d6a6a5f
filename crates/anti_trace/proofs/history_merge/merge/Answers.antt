use Rattle.std.proofs.Common.{◌+◌, ◌<◌, ◌≡◌, List, length, set, refl, ap, arith}
use Rattle.std.specs.BinaryHeap.{heap_items}
use Rattle.std.proofs.lemmas.Bool.{false≢true}
use Rattle.std.proofs.lemmas.List.{get_or_read}
use Rattle.anti_ids.specs.List.{Listed, empty}
use Rattle.anti_kind.specs.declared.entry.Entry.{Entry}
use Rattle.anti_trace.specs.Histories.{all_entries}
use Rattle.anti_trace.proofs.HeadLemmas.{IsLast, first_is_last, heads_renewed, no_heads}
use Rattle.anti_trace.proofs.Merges.{merging_more, merging_all, one_less, taken_at}
use Rattle.anti_trace.proofs.history_merge.merge.Goals as goal

pub index_mut-history-requires : goal.index_mut-history-requires
index_mut-history-requires c =
    let l = c.loop-first in
    let told = c.in-Some.ensures in
    let some = told.variant.0 refl in
    let many = l.heads.data.ok.0 in
    let last : IsLast l.left.items c.in-Some.first.now.history =
    first_is_last l.left.items (heap_items l.heads) c.in-Some.first.now l.invariant.heads (omega arith) told.lookup (told.greatest l.invariant.order) in
    omega (arith, last.inside)

pub push_front_reserved-requires : goal.push_front_reserved-requires
push_front_reserved-requires c =
    let l = c.loop-first in
    let k = c.in-Some.first.now.history in
    let told = c.in-Some.ensures in
    let some = told.variant.0 refl in
    let many = l.heads.data.ok.0 in
    let last : IsLast l.left.items k =
    first_is_last l.left.items (heap_items l.heads) c.in-Some.first.now l.invariant.heads (omega arith) told.lookup (told.greatest l.invariant.order) in
    let taken = taken_at l.left.items k c.index_mut-history.result.now c.pop.new.self c.in-Some-pop.entry last c.index_mut-history.ensures.value c.in-Some-pop.ensures.some in
    let less = one_less c.args.histories.items l.left.items l.entries.items l.invariant.merging k last c.pop.new.self c.in-Some-pop.entry taken in
    let count = l.invariant.merging.count in
    let room = l.invariant.room in
    let long = l.entries.ok.0 in
    omega arith

pub unreachable-requires : goal.unreachable-requires
unreachable-requires c =
    let l = c.loop-first in
    let k = c.in-Some.first.now.history in
    let told = c.in-Some.ensures in
    let some = told.variant.0 refl in
    let many = l.heads.data.ok.0 in
    let last : IsLast l.left.items k =
    first_is_last l.left.items (heap_items l.heads) c.in-Some.first.now l.invariant.heads (omega arith) told.lookup (told.greatest l.invariant.order) in
    let read = get_or_read l.left.items k c.index_mut-history.result.now last.inside c.index_mut-history.ensures.value empty in
    let there = last.some in
    let same = ap (λ (h : Listed Entry). length h.items) read in
    let none = ap length c.in-None.ensures.none in
    omega arith

pub loop-first-smaller : goal.loop-first-smaller
loop-first-smaller c =
    let l = c.loop-first in
    let k = c.in-Some.first.now.history in
    let told = c.in-Some.ensures in
    let some = told.variant.0 refl in
    let many = l.heads.data.ok.0 in
    let last : IsLast l.left.items k =
    first_is_last l.left.items (heap_items l.heads) c.in-Some.first.now l.invariant.heads (omega arith) told.lookup (told.greatest l.invariant.order) in
    let taken = taken_at l.left.items k c.index_mut-history.result.now c.pop.new.self c.in-Some-pop.entry last c.index_mut-history.ensures.value c.in-Some-pop.ensures.some in
    let less : length (all_entries (set l.left.items k c.pop.new.self)) + 1 ≡ length (all_entries l.left.items) =
    one_less c.args.histories.items l.left.items l.entries.items l.invariant.merging k last c.pop.new.self c.in-Some-pop.entry taken in
    omega arith

-- one entry goes over from the end of its history to the front of the trace
pub loop-first-preserved : goal.loop-first-preserved
loop-first-preserved c =
    let l = c.loop-first in
    let left : List (Listed Entry) = l.left.items in
    let k = c.in-Some.first.now.history in
    let new : Listed Entry = c.pop.new.self in
    let told = c.in-Some.ensures in
    let some = told.variant.0 refl in
    let long = l.heads.data.ok.0 in
    let many : 0 < length (heap_items l.heads) = omega arith in
    let last : IsLast left k =
    first_is_last left (heap_items l.heads) c.in-Some.first.now l.invariant.heads many told.lookup (told.greatest l.invariant.order) in
    let taken = taken_at left k c.index_mut-history.result.now new c.in-Some-pop.entry last c.index_mut-history.ensures.value c.in-Some-pop.ensures.some in
    record {
      merging = rw (c.push_front_reserved.ensures.items) (merging_more c.args.histories.items left l.entries.items l.invariant.merging k last new c.in-Some-pop.entry taken);
      order = c.renew_first.ensures.order l.invariant.order;
      heads = heads_renewed left (heap_items l.heads) (heap_items c.renew_first.new.heads) c.in-Some.first.now new l.invariant.heads many told.lookup c.renew_first.ensures.heads;
      room = let room = l.invariant.room in let same = c.push_front_reserved.ensures.capacity in omega arith;
    }

pub returns-clause-entries : goal.returns-clause-entries
returns-clause-entries c =
    let l = c.loop-first in
    let long = l.heads.data.ok.0 in
    let none = c.in_default.ensures.variant in
    rw (c.of.ensures, c.into_vec.ensures.items)
    (merging_all c.args.histories.items l.left.items l.entries.items l.invariant.merging
    (no_heads l.left.items (heap_items l.heads) l.invariant.heads (λ some. false≢true (none.1 (omega arith)))))
