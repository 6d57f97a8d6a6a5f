use Rattle.std.proofs.Common.{◌≡◌, ℕ, ◌<◌, ◌≤◌, List, false, not, length, sym, subst, ◌∙◌, rules}
use Rattle.std.specs.Prelude.{IfOk, IsErrOf, OnOk}
use Rattle.anti_ids.specs.declared.id.WriteId.{WriteId}
use Rattle.anti_ids.specs.declared.limits.TheConstants.{MOST_IDS}
use Rattle.anti_ids.specs.declared.lineage.LineageRefused.TheVariants.{Full}
use Rattle.anti_ids.specs.Ids.{has_id, with_id}
use Rattle.anti_ids.specs.inner.Held.{held_ids}
use Rattle.anti_ids.specs.inner.Left.{is_gone, left_of}
use Rattle.anti_ids.proofs.LeftLemmas.{all_left}
use Rattle.anti_ids.proofs.held_ids.HeldIds.add.Goals as goal

pub returns-in-Short : goal.returns-in-Short
returns-in-Short c =
    let id = c.args.id in
    let held = held_ids c.args.self.now in
    let words = c.in-Short.short.words in
    let block = c.in-Short.short.block in
    let grown = c.add_to.new.block in
    let none : (at : ℕ) → is_gone words at ≡ false = λ at. search rules in
    let left : held ≡ left_of words 0 block = search rules in
    let all : block ≡ held = sym (left ∙ all_left words 0 block none) in
    let added = c.add_to.ensures in
    let with_one : IfOk c.add_to.result (λ _. grown ≡ with_id id held) = subst (λ (x : List WriteId). IfOk c.add_to.result (λ _. grown ≡ with_id id x)) all added.ok in
    record {
      ok = subst (λ (x : List WriteId). IfOk c.add_to.result (λ _. x ≡ with_id id held)) (sym (all_left words 0 grown none)) with_one;
      lineage = search rules;
      new = subst (λ (x : List WriteId). IfOk c.add_to.result (λ is_new. is_new ≡ not (has_id id x))) all added.new;
      fits = subst (λ (x : List WriteId). OnOk c.add_to.result (length (with_id id x) ≤ MOST_IDS)) all added.fits;
      full = subst (λ (x : List WriteId). IsErrOf c.add_to.result Full → (has_id id x ≡ false) × (length x ≡ MOST_IDS)) all added.full;
      too_many = subst (λ (x : List WriteId). IsErrOf c.add_to.result Full → MOST_IDS < length (with_id id x)) all added.too_many;
      err = search rules;
    }

pub returns-in-Long : goal.returns-in-Long
returns-in-Long c =
    let id = c.args.id in
    let held = held_ids c.args.self.now in
    let words = c.in-Long.long.words.value in
    let block = c.in-Long.long.block in
    let grown = c.add_to-in-Long.new.block in
    let none : (at : ℕ) → is_gone words at ≡ false = λ at. search rules in
    let left : held ≡ left_of words 0 block = search rules in
    let all : block ≡ held = sym (left ∙ all_left words 0 block none) in
    let added = c.add_to-in-Long.ensures in
    let with_one : IfOk c.add_to-in-Long.result (λ _. grown ≡ with_id id held) = subst (λ (x : List WriteId). IfOk c.add_to-in-Long.result (λ _. grown ≡ with_id id x)) all added.ok in
    record {
      ok = subst (λ (x : List WriteId). IfOk c.add_to-in-Long.result (λ _. x ≡ with_id id held)) (sym (all_left words 0 grown none)) with_one;
      lineage = search rules;
      new = subst (λ (x : List WriteId). IfOk c.add_to-in-Long.result (λ is_new. is_new ≡ not (has_id id x))) all added.new;
      fits = subst (λ (x : List WriteId). OnOk c.add_to-in-Long.result (length (with_id id x) ≤ MOST_IDS)) all added.fits;
      full = subst (λ (x : List WriteId). IsErrOf c.add_to-in-Long.result Full → (has_id id x ≡ false) × (length x ≡ MOST_IDS)) all added.full;
      too_many = subst (λ (x : List WriteId). IsErrOf c.add_to-in-Long.result Full → MOST_IDS < length (with_id id x)) all added.too_many;
      err = search rules;
    }
