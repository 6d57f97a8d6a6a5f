use Rattle.std.proofs.Common.{◌≡◌, ◌<◌, ◌^◌, [], ◌∷◌, length, arith}
use Rattle.std.proofs.lemmas.List.{length-append}
use Rattle.std.proofs.lemmas.List.Elements.{All-nil, All-cons}
use Rattle.anti_ids.specs.List.{Listed}
use Rattle.anti_kind.specs.declared.entry.Entry.{Entry}
use Rattle.anti_trace.specs.Histories.{IsHistory, AreApart, AreHistories, all_entries}
use Rattle.anti_trace.proofs.Merges.{apart_on, are_none, are_more}
use Rattle.test_libraries.proofs.trace.are_merged.Goals as goal

module _ (a b c : Listed Entry) where
  three : IsHistory a.items → IsHistory b.items → IsHistory c.items
      → AreApart a.items b.items → AreApart a.items c.items → AreApart b.items c.items → AreHistories (a ∷ b ∷ c ∷ [])
  three x y z ab ac bc =
      let one : AreHistories (a ∷ []) = are_more [] a are_none x (All-nil (λ (g : Listed Entry). AreApart g.items a.items)) in
      let two : AreHistories (a ∷ b ∷ []) = are_more (a ∷ []) b one y (All-cons (λ (g : Listed Entry). AreApart g.items b.items) a [] ab (All-nil _)) in
      are_more (a ∷ b ∷ []) c two z
      (All-cons (λ (g : Listed Entry). AreApart g.items c.items) a (b ∷ []) ac (All-cons (λ (g : Listed Entry). AreApart g.items c.items) b [] bc (All-nil _)))

  few : length a.items ≡ 2 → length b.items ≡ 2 → length c.items ≡ 2 → length (all_entries (a ∷ b ∷ c ∷ [])) < 2 ^ 32
  few x y z = omega (arith, length-append {A = Entry})

pub merge-requires-clause-own : goal.merge-requires-clause-own
merge-requires-clause-own c =
    let first = c.in-Ok-history.ensures in
    let second = c.in-Ok-history-2.ensures in
    let third = c.in-Ok-history-3.ensures in
    let all : AreHistories c.put-3.new.self.items =
    rw (c.put-3.ensures, c.put-2.ensures, c.put.ensures, c.in-Ok.ensures.ok, c.new-histories.ensures)
    (three c.in-Ok-history.first c.in-Ok-history-2.second c.in-Ok-history-3.third first.is second.is third.is
    (apart_on 7 0 _ _ first.own second.own (λ same. omega arith))
    (apart_on 7 3 _ _ first.own third.own (λ same. omega arith))
    (apart_on 0 3 _ _ second.own third.own (λ same. omega arith))) in all

pub merge-requires-clause-few : goal.merge-requires-clause-few
merge-requires-clause-few c =
    let all : length (all_entries c.put-3.new.self.items) < 2 ^ 32 =
    rw (c.put-3.ensures, c.put-2.ensures, c.put.ensures, c.in-Ok.ensures.ok, c.new-histories.ensures)
    (few c.in-Ok-history.first c.in-Ok-history-2.second c.in-Ok-history-3.third c.in-Ok-history.ensures.two c.in-Ok-history-2.ensures.two c.in-Ok-history-3.ensures.two) in all
