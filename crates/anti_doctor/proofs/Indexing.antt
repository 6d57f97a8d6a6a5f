-- The index of the writes of a trace by their keys.
use Rattle.std.proofs.Common.{◌≡◌, ℕ, ◌+◌, ◌++◌, Bool, true, false, cond, List, [], ◌∷◌, refl, sym, ap, ◌∙◌, append-nil}
use Rattle.std.specs.Prelude.{Option, None, Some, slice_get}
use Rattle.std.specs.BTreeMap as tree
use Rattle.std.specs.Global.{Vec}
use Rattle.std.specs.Option.{option_map_or}
use Rattle.anti_ids.specs.declared.id.WriteId.{WriteId}
use Rattle.anti_kind.specs.declared.entry.Entry.{Entry}
use Rattle.law_causal.specs.Words.{wrote}
use Rattle.law_causal.specs.Reads.{is_at}
use Rattle.anti_order.proofs.Places.{is_at_entry, places_more}
use Rattle.anti_doctor.specs.declared.write_index.StoreKey.{StoreKey}
use Rattle.anti_doctor.specs.Missed.{first_of}
use Rattle.anti_doctor.specs.inner.Indexes.{IsIndexOf, key_cmp, key_of, places_before, places_under, same_key, writes_to}
use Rattle.anti_doctor.proofs.KeyOrder.{same_key_is}

-- ---- a place more

under_more : (trace : List Entry) (k : ℕ) (e : Entry) → slice_get trace k ≡ Some e → (q : StoreKey)
    → places_before trace (k + 1) q ≡ places_before trace k q ++ cond (writes_to q e) (k ∷ []) []
under_more trace k e at q =
    places_more (is_at (writes_to q) trace) k
    ∙ ap (λ (t : Bool). places_before trace k q ++ cond t (k ∷ []) []) (is_at_entry (writes_to q) trace k e at)

pub index_more : (trace : List Entry) (k : ℕ) (e : Entry) → slice_get trace k ≡ Some e → (old new : tree.BTreeMap StoreKey (Vec ℕ))
    → IsIndexOf trace k old
    → ((q : StoreKey) → places_under new q ≡ places_under old q ++ cond (writes_to q e) (k ∷ []) []) → IsIndexOf trace (k + 1) new
index_more trace k e at old new is adds q =
    adds q ∙ ap (λ (ps : List ℕ). ps ++ cond (writes_to q e) (k ∷ []) []) (is q) ∙ sym (under_more trace k e at q)

-- ---- one key of a map

pub under_new : (m n : tree.BTreeMap StoreKey (Vec ℕ)) (key : StoreKey) (places : Vec ℕ) (is : List ℕ) → places.items ≡ is
    → tree.Updates key_cmp m n key (Some places)
    → (q : StoreKey) → places_under n q ≡ cond (same_key key q) is (places_under m q)
under_new m n key places is same updates q =
    ap (λ found. option_map_or (λ (v : Vec ℕ). v.items) found []) (updates.0 q) ∙ by_test (same_key key q) (tree.get key_cmp m q)
  where
    by_test : (t : Bool) (was : Option (Vec ℕ))
        → option_map_or (λ (v : Vec ℕ). v.items) (cond t (Some places) was) [] ≡ cond t is (option_map_or (λ (v : Vec ℕ). v.items) was [])
    by_test true was = same
    by_test false was = refl

-- what stands in the place of what a key had goes on from it
goes_on : (m : tree.BTreeMap StoreKey (Vec ℕ)) (key : StoreKey) (ps : List ℕ) (place : ℕ) → ps ≡ places_under m key ++ place ∷ []
    → (q : StoreKey) → cond (same_key key q) ps (places_under m q) ≡ places_under m q ++ cond (same_key key q) (place ∷ []) []
goes_on m key ps place is q = by_test (same_key key q) refl
  where
    by_test : (t : Bool) → same_key key q ≡ t → cond t ps (places_under m q) ≡ places_under m q ++ cond t (place ∷ []) []
    by_test true on = is ∙ ap (λ (z : StoreKey). places_under m z ++ place ∷ []) (same_key_is key q on)
    by_test false off = sym (append-nil (places_under m q))

pub under_first : (m n : tree.BTreeMap StoreKey (Vec ℕ)) (key : StoreKey) (place : ℕ) → tree.get key_cmp m key ≡ None → (q : StoreKey)
    → places_under n q ≡ cond (same_key key q) (place ∷ []) (places_under m q) → places_under n q ≡ places_under m q ++ cond (same_key key q) (place ∷ []) []
under_first m n key place none q is =
    is ∙ goes_on m key (place ∷ []) place (sym (ap (λ found. option_map_or (λ (v : Vec ℕ). v.items) found [] ++ place ∷ []) none)) q

pub under_further : (m n : tree.BTreeMap StoreKey (Vec ℕ)) (key : StoreKey) (place : ℕ) (was now : Vec ℕ)
    → tree.get key_cmp m key ≡ Some was
    → now.items ≡ was.items ++ place ∷ [] → tree.Updates key_cmp m n key (Some now) → (q : StoreKey)
    → places_under n q ≡ places_under m q ++ cond (same_key key q) (place ∷ []) []
under_further m n key place was now there more updates q =
    under_new m n key now now.items refl updates q
    ∙ goes_on m key now.items place (more ∙ sym (ap (λ found. option_map_or (λ (v : Vec ℕ). v.items) found [] ++ place ∷ []) there)) q

-- ---- the key of an entry

pub writes_keyed : (e : Entry) (w : WriteId) → Some w ≡ first_of (wrote e) → (q : StoreKey) → same_key (key_of w) q ≡ writes_to q e
writes_keyed e w is q = ap (λ found. option_map_or (λ w. same_key (key_of w) q) found false) is

pub writes_none : (e : Entry) → None ≡ first_of (wrote e) → (q : StoreKey) → false ≡ writes_to q e
writes_none e is q = ap (λ found. option_map_or (λ w. same_key (key_of w) q) found false) is
