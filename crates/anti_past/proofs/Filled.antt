-- A lineage of which each id came, and which has as many ids as came at most, has all that came.
use Rattle.std.proofs.Common.{◌≡◌, ℕ, ◌+◌, ◌≤◌, ◌++◌, nat_lt, Bool, true, false, not, List, [], ◌∷◌, length, get_or, refl, sym, ap, ◌∙◌, subst, append-nil, arith, length-append}
use Rattle.std.specs.Prelude.{Option, None, Some, if◌then◌else◌, slice_get}
use Rattle.std.specs.Option.{option_and_then, option_map_or}
use Rattle.std.proofs.lemmas.Bool.{and_from}
use Rattle.anti_ids.specs.Ids.{has_id, is_id, without_id}
use Rattle.anti_ids.specs.Invariants.{IsAscending}
use Rattle.anti_ids.specs.declared.id.WriteId.{WriteId}
use Rattle.anti_ids.proofs.IdLemmas.{has_id-without_id, length-part, length-without_id, same_id}
use Rattle.anti_kind.specs.declared.call.Call.{Call}
use Rattle.anti_kind.specs.declared.call.Call.TheVariants as calls
use Rattle.anti_kind.specs.declared.call.Reply.{Reply}
use Rattle.anti_kind.specs.declared.call.Reply.TheVariants as replies
use Rattle.anti_kind.specs.declared.entry.Entry.{Entry}
use Rattle.anti_app.specs.declared.app.App.{App}
use Rattle.law_causal.specs.Words.{brings, comes_with}
use Rattle.anti_past.specs.declared.came.Came.{Came}
use Rattle.anti_past.specs.inner.Came.{brought_at, came_ids, holds, ids_since, most_at, most_of}
use Rattle.anti_proc.specs.Local.{id_at}
use Rattle.anti_past.proofs.Held.{has_all}

-- ascending ids that all are among others, and as many as these, are all of them
module _ (xs ys : List WriteId) (ascending : IsAscending xs) (among : (w : WriteId) → has_id w xs ≡ true → has_id w ys ≡ true) where
  pub filled : length ys ≤ length xs → holds xs ys ≡ true
  filled many = has_all (λ w. has_id w xs) ys (λ w has. by_test w has (has_id w xs) refl)
    where
      is_other : (w : WriteId) → has_id w xs ≡ false → (i : WriteId) → has_id i xs ≡ true → (t : Bool) → is_id i w ≡ t → is_id i w ≡ false
      is_other w off i on true same =
          let both : true ≡ false = sym on ∙ ap (λ (j : WriteId). has_id j xs) (same_id i w same) ∙ off in
          absurd (cc)
      is_other w off i on false other = other

      by_test : (w : WriteId) → has_id w ys ≡ true → (t : Bool) → has_id w xs ≡ t → has_id w xs ≡ true
      by_test w has true on = on
      by_test w has false off =
          let others : (i : WriteId) → has_id i xs ≡ true → has_id i (without_id w ys) ≡ true =
          λ i on. has_id-without_id i w ys
          ∙ and_from (has_id i ys) (not (is_id i w)) (among i on) (ap not (is_other w off i on (is_id i w) refl)) in
          let few : length xs ≤ length (without_id w ys) = length-part xs (without_id w ys) ascending others in
          let fewer : length (without_id w ys) + 1 ≤ length ys = length-without_id w ys has in
          absurd (omega arith)

-- ---- how many ids an entry brings

one_if : (t : Bool) (w : WriteId) → length (if t then w ∷ [] else []) ≤ 1
one_if true w = omega arith
one_if false w = omega arith

few_written : (app : App) (o : ℕ) (key value : List ℕ) (lineage : List WriteId) (reply : Reply) (most : ℕ) → most_of (calls.Write key value lineage) reply ≡ Some most
    → length (comes_with app o (calls.Write key value lineage) reply) ≤ most
few_written app o key value lineage (replies.Written name version (Some kept)) most is = absurd (cc)
few_written app o key value lineage (replies.Written name version None) most is =
    let one : 1 ≡ most = cc in
    subst (λ (n : ℕ). length (id_at o name version ++ []) ≤ n) one
    (subst (λ (ids : List WriteId). length ids ≤ 1) (sym (append-nil (id_at o name version))) (one_if (nat_lt 0 version) (record { store = o; key = name; version = version })))
few_written app o key value lineage reply most is = omega arith

few_of : (app : App) (o : ℕ) (call : Call) (reply : Reply) (most : ℕ) → most_of call reply ≡ Some most → length (comes_with app o call reply) ≤ most
few_of app o (calls.Write key value lineage) reply most is = few_written app o key value lineage reply most is
few_of app o (calls.Read region key) reply most is = absurd (cc)
few_of app o (calls.Scan region prefix) reply most is = absurd (cc)
few_of app o (calls.Poll region key) reply most is = absurd (cc)
few_of app o (calls.Pull sub) reply most is = absurd (cc)
few_of app o (calls.Repull sub version) reply most is = absurd (cc)
few_of app o (calls.Take nth) reply most is = absurd (cc)
few_of app o (calls.TakeReply number) reply most is = absurd (cc)
few_of app o call reply most is = omega arith

few_at : (app : App) (trace : List Entry) (i most : ℕ) → most_at trace i ≡ Some most → length (brought_at app trace i) ≤ most
few_at app trace i most is = by_entry (slice_get trace i) is
  where
    by_entry : (found : Option Entry) → option_and_then (λ e. most_of e.call e.reply) found ≡ Some most → length (option_map_or (brings app) found []) ≤ most
    by_entry None none = absurd (cc)
    by_entry (Some e) one = few_of app e.object e.call e.reply most one

-- where one entry alone was since, no more ids came than were carried and it brings
pub few_came : (app : App) (trace : List Entry) (c : Came) (i most : ℕ) → c.since.items ≡ i ∷ [] → most_at trace i ≡ Some most
    → length (came_ids app trace c) ≤ length c.carried + most
few_came app trace c i most since is =
    let few : length (brought_at app trace i) ≤ most = few_at app trace i most is in
    omega (
      arith,
      ap (λ (is : List ℕ). length (c.carried ++ ids_since app trace is)) since,
      length-append c.carried (brought_at app trace i ++ []),
      length-append (brought_at app trace i) [],
    )

-- the only one of some numbers
pub alone : (ns : List ℕ) → length ns ≡ 1 → ns ≡ get_or ns 0 0 ∷ []
alone [] one = absurd (omega arith)
alone (n ∷ []) one = refl
alone (n ∷ m ∷ ns) one = absurd (omega arith)
