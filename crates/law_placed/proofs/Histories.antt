-- What is known of a process by the calls that it made, and what is then asked of its next one.
use Rattle.std.proofs.Common.{◌≡◌, ℕ, ◌==◌, ◌++◌, ◌&&◌, ◌||◌, ◌⊎◌, Bool, true, false, List, [], ◌∷◌, map, refl, sym, ap, ◌∙◌, subst, inl, inr, eqb-true, eq-eqb}
use Rattle.std.specs.Prelude.{Some, if◌then◌else◌}
use Rattle.std.proofs.lemmas.Bool.{and_from, and_parts, or_cases, or_left, or_right}
use Rattle.anti_ids.specs.Ids.{has_id}
use Rattle.anti_ids.specs.declared.id.WriteId.{WriteId}
use Rattle.anti_kind.specs.declared.call.Call.{Call}
use Rattle.anti_kind.specs.declared.call.Call.TheVariants as calls
use Rattle.anti_kind.specs.declared.call.Reply.{Reply}
use Rattle.anti_kind.specs.declared.call.Reply.TheVariants as replies
use Rattle.anti_kind.specs.declared.entry.Entry.{Entry}
use Rattle.anti_app.specs.declared.app.App.{App}
use Rattle.anti_app.specs.Objects.{is_store_here}
use Rattle.anti_proc.specs.Meaning.{reply_of}
use Rattle.anti_proc.specs.Trees.{Tree, Ask, Asks, Ends, after, ask_of}
use Rattle.anti_trace.specs.Legal.{GoAlong}
use Rattle.law_causal.specs.Words.{comes_with, hands_all, reads}
use Rattle.law_causal.specs.Settled.{found_in, region_named}

-- Which ids came to which span, which of them looks found in which span, and whether each look that is not dry found all that it asked for.
pub record History : Type 0 where
  pub came : ℕ → WriteId → Bool
  pub found : ℕ → WriteId → Bool
  pub waited : Bool

abbrev pub nothing : History
nothing = record { came = λ n i. false; found = λ n i. false; waited = true }

abbrev pub names_none : Reply → Bool
names_none (replies.Missing [] unwritten) = true
names_none reply = false

-- a look that is not dry found all; other calls wait for nothing
abbrev pub waits : Call → Reply → Bool
waits (calls.Look region ids false) reply = names_none reply
waits call reply = true

abbrev pub ids_in : ℕ → ℕ → List WriteId → List WriteId
ids_in n m ids = if n == m then ids else []

-- one call more, at an object and in a span, and its reply
abbrev pub more : App → History → ℕ → ℕ → Call → Reply → History
more app h object span call reply = record {
  came = λ n i. h.came n i || has_id i (ids_in span n (comes_with app object call reply));
  found = λ n i. h.found n i || has_id i (ids_in span n (found_in call reply));
  waited = h.waited && waits call reply;
}

-- A call that is to carry all carries what came to its span. Where looks waited, all that is carried into a read, of stores with a replica
-- in the region, was found in its span.
pub record IsGoodAsk (app : App) (h : History) (ask : Ask) : Type 0 where
  pub keeps : hands_all ask.call ≡ true → (i : WriteId) → h.came ask.span i ≡ true → has_id i ask.carried ≡ true
  pub guarded : h.waited ≡ true → reads ask.call ≡ true → (i : WriteId) → has_id i ask.carried ≡ true
      → is_store_here app (region_named ask.call) i.store ≡ true → h.found ask.span i ≡ true

-- a call that is no read, at which all that came is carried, ..
pub handing : {app : App} {h : History} {ask : Ask} → reads ask.call ≡ false
    → ((i : WriteId) → h.came ask.span i ≡ true → has_id i ask.carried ≡ true) → IsGoodAsk app h ask
handing no_read all = record { keeps = λ hands i came. all i came; guarded = λ waited is i has near. absurd (cc) }

-- .. and one that hands nothing on
pub silent : {app : App} {h : History} {ask : Ask} → reads ask.call ≡ false → hands_all ask.call ≡ false → IsGoodAsk app h ask
silent no_read none = record { keeps = λ hands i came. absurd (cc); guarded = λ waited is i has near. absurd (cc) }

-- it is so of each call that the process makes, whatever it is answered
abbrev pub Good : App → History → Tree → Type 0
Good app h (Asks ask go) =
    IsGoodAsk app h ask × ((reply : Reply) → Good app (more app h ask.object ask.span ask.call reply) (go reply))
Good app h (Ends end) = Unit {0}

-- ---- one call more

pub own_span : (n m : ℕ) (ids : List WriteId) (i : WriteId) → has_id i (ids_in n m ids) ≡ true → (n ≡ m) × (has_id i ids ≡ true)
own_span n m ids i has = by_test (n == m) refl has
  where
    by_test : (t : Bool) → (n == m) ≡ t → has_id i (if t then ids else []) ≡ true → (n ≡ m) × (has_id i ids ≡ true)
    by_test true same has = (eqb-true n m same, has)
    by_test false same has = absurd (cc)

pub in_own : (n m : ℕ) (ids : List WriteId) (i : WriteId) → n ≡ m → has_id i ids ≡ true → has_id i (ids_in n m ids) ≡ true
in_own n m ids i same has = ap (λ (t : Bool). has_id i (if t then ids else [])) (eq-eqb n m same) ∙ has

module _ (app : App) (h : History) (object span : ℕ) (call : Call) (reply : Reply) where
  abbrev now : History
  now = more app h object span call reply

  pub came_before : (n : ℕ) (i : WriteId) → now.came n i ≡ true
      → (h.came n i ≡ true) ⊎ ((span ≡ n) × (has_id i (comes_with app object call reply) ≡ true))
  came_before n i came =
      elim (or_cases (h.came n i) (has_id i (ids_in span n (comes_with app object call reply))) came) [
        | inl before ↦ inl before
        | inr here ↦ inr (own_span span n (comes_with app object call reply) i here)
      ]

  pub came_on : (n : ℕ) (i : WriteId) → h.came n i ≡ true → now.came n i ≡ true
  came_on n i before = or_left (h.came n i) (has_id i (ids_in span n (comes_with app object call reply))) before

  pub came_now : (n : ℕ) (i : WriteId) → span ≡ n → has_id i (comes_with app object call reply) ≡ true → now.came n i ≡ true
  came_now n i same has =
      or_right (h.came n i) (has_id i (ids_in span n (comes_with app object call reply)))
      (in_own span n (comes_with app object call reply) i same has)

  pub found_before : (n : ℕ) (i : WriteId) → now.found n i ≡ true
      → (h.found n i ≡ true) ⊎ ((span ≡ n) × (has_id i (found_in call reply) ≡ true))
  found_before n i found =
      elim (or_cases (h.found n i) (has_id i (ids_in span n (found_in call reply))) found) [
        | inl before ↦ inl before
        | inr here ↦ inr (own_span span n (found_in call reply) i here)
      ]

  pub found_on : (n : ℕ) (i : WriteId) → h.found n i ≡ true → now.found n i ≡ true
  found_on n i before = or_left (h.found n i) (has_id i (ids_in span n (found_in call reply))) before

  pub found_now : (n : ℕ) (i : WriteId) → span ≡ n → has_id i (found_in call reply) ≡ true → now.found n i ≡ true
  found_now n i same has =
      or_right (h.found n i) (has_id i (ids_in span n (found_in call reply))) (in_own span n (found_in call reply) i same has)

  pub waited_before : now.waited ≡ true → h.waited ≡ true
  waited_before waited = (and_parts h.waited (waits call reply) waited).0

  pub waited_now : now.waited ≡ true → waits call reply ≡ true
  waited_now waited = (and_parts h.waited (waits call reply) waited).1

-- ---- the entries of a process

-- what is known after these
abbrev pub along : App → History → List Entry → History
along app h [] = h
along app h (e ∷ es) = along app (more app h e.object e.span e.call e.reply) es

module _ (app : App) where
  -- The next call of a good process that went along these entries is good.
  pub reached : (h : History) (tree : Tree) (es : List Entry) (ask : Ask) → Good app h tree → GoAlong tree es
      → ask_of (after tree (map reply_of es)) ≡ Some ask → IsGoodAsk app (along app h es) ask
  reached h (Asks first go) [] ask good goes is = let same : first ≡ ask = cc in subst (IsGoodAsk app h) same good.0
  reached h (Asks first go) (e ∷ es) ask good goes is =
      let same : more app h e.object e.span e.call e.reply ≡ more app h first.object first.span first.call e.reply =
      λ i. more app h (goes.0 i) (goes.1 i) (goes.2 i) e.reply in
      reached (more app h e.object e.span e.call e.reply) (go e.reply) es ask
      (subst (λ (x : History). Good app x (go e.reply)) (sym same) (good.1 e.reply)) goes.3 is
  reached h (Ends end) [] ask good goes is = absurd (cc)
  reached h (Ends end) (e ∷ es) ask good goes is = absurd goes

  -- what came stays, ..
  came_along : (es : List Entry) (h : History) (n : ℕ) (i : WriteId) → h.came n i ≡ true → (along app h es).came n i ≡ true
  came_along [] h n i came = came
  came_along (e ∷ es) h n i came =
      came_along es (more app h e.object e.span e.call e.reply) n i (came_on app h e.object e.span e.call e.reply n i came)

  -- .. and what an entry brings comes to its span.
  pub brought_along : (front : List Entry) (e : Entry) (back : List Entry) (h : History) (i : WriteId)
      → has_id i (comes_with app e.object e.call e.reply) ≡ true → (along app h (front ++ e ∷ back)).came e.span i ≡ true
  brought_along [] e back h i has =
      came_along back (more app h e.object e.span e.call e.reply) e.span i (came_now app h e.object e.span e.call e.reply e.span i refl has)
  brought_along (x ∷ front) e back h i has = brought_along front e back (more app h x.object x.span x.call x.reply) i has

  -- an entry among these is a look in the span, and found the id
  pub record IsFoundBy (n : ℕ) (i : WriteId) (es : List Entry) : Type 0 where
    pub front : List Entry
    pub entry : Entry
    pub back : List Entry
    pub cut : es ≡ front ++ entry ∷ back
    pub span : entry.span ≡ n
    pub found : has_id i (found_in entry.call entry.reply) ≡ true

  -- What was found, an entry found.
  pub found_along : (es : List Entry) (h : History) (n : ℕ) (i : WriteId) → (along app h es).found n i ≡ true
      → (h.found n i ≡ true) ⊎ IsFoundBy n i es
  found_along [] h n i found = inl found
  found_along (e ∷ es) h n i found =
      elim (found_along es (more app h e.object e.span e.call e.reply) n i found) [
        | inl before ↦ of_first (found_before app h e.object e.span e.call e.reply n i before)
        | inr later ↦ inr (record {
          front = e ∷ later.front;
          entry = later.entry;
          back = later.back;
          cut = ap (λ rest. e ∷ rest) later.cut;
          span = later.span;
          found = later.found;
        })
      ]
    where
      of_first : (h.found n i ≡ true) ⊎ ((e.span ≡ n) × (has_id i (found_in e.call e.reply) ≡ true))
          → (h.found n i ≡ true) ⊎ IsFoundBy n i (e ∷ es)
      of_first (inl before) = inl before
      of_first (inr here) = inr (record { front = []; entry = e; back = es; cut = refl; span = here.0; found = here.1 })

  -- Where each of them waited, all did.
  pub waited_along : (es : List Entry) (h : History) → h.waited ≡ true
      → ((front : List Entry) (e : Entry) (back : List Entry) → es ≡ front ++ e ∷ back → waits e.call e.reply ≡ true)
      → (along app h es).waited ≡ true
  waited_along [] h waited each = waited
  waited_along (e ∷ es) h waited each =
      waited_along es (more app h e.object e.span e.call e.reply) (and_from h.waited (waits e.call e.reply) waited (each [] e es refl))
      (λ front x back cut. each (e ∷ front) x back (ap (λ rest. e ∷ rest) cut))
