-- What the entries of a span add to its members.
use Rattle.std.proofs.Common.{◌≡◌, ℕ, zero, suc, ◌+◌, ◌-◌, ◌<◌, ◌≤◌, ◌++◌, true, false, List, [], ◌∷◌, length, get_or, take, refl, sym, ap, ◌∙◌, arith}
use Rattle.std.specs.Prelude.{All, Option, None, Some, option_map, slice_get, flat_map}
use Rattle.std.specs.Option.{option_and_then, option_map_or}
use Rattle.std.proofs.lemmas.List.{flat_map_more, take_all, take_more}
use Rattle.std.proofs.lemmas.List.Elements.{All-weaker, Contains-get_or}
use Rattle.std.proofs.lemmas.Option.{slice_get_within}
use Rattle.anti_kind.specs.declared.actor.Birth.{Birth}
use Rattle.anti_kind.specs.declared.entry.Entry.{Entry}
use Rattle.law_causal.specs.Reads.{is_at}
use Rattle.law_causal.specs.Words.{reads}
use Rattle.anti_session.specs.Members.{adds, adds_at, call_posted, members, members_in, server_of, span_places}
use Rattle.anti_session.specs.Sessions.{MembersAreChains}
use Rattle.anti_session.specs.inner.Adding.{added, server_at}
use Rattle.anti_session.specs.inner.Calls.{call_of}

module _ (of : Birth → List ℕ) (trace : List Entry) (birth : Birth) (span : ℕ) where
  server_same : (o : ℕ) (posted : Option ℕ)
      → option_and_then (λ (c : ℕ × ℕ). server_of trace birth span c.0 c.1) (option_map (λ (n : ℕ). (o, n)) posted)
      ≡ option_and_then (server_of trace birth span o) posted
  server_same o None = refl
  server_same o (Some n) = refl

  adds_by : (x : ℕ) (found : Option Entry)
      → added of (option_map_or (λ (e : Entry). reads e.call) found false) x
      (option_and_then (λ (c : ℕ × ℕ). server_of trace birth span c.0 c.1) (option_and_then call_of found))
      ≡ option_map_or (adds of trace birth span x) found []
  adds_by x None = refl
  adds_by x (Some e) = ap (added of (reads e.call) x) (server_same e.object (call_posted e.call e.reply))

  -- the entry at one place more
  pub adds_more : (xs : List ℕ) (k x d : ℕ) (before old new : List ℕ) → k < length xs → x ≡ get_or xs k d
      → old ≡ before ++ flat_map (adds_at of trace birth span) (take k xs)
      → new ≡ old ++ added of (is_at (λ (e : Entry). reads e.call) trace x) x (server_at trace birth span x)
      → new ≡ before ++ flat_map (adds_at of trace birth span) (take (k + 1) xs)
  adds_more xs k x d before old new low is so_far adds =
      adds
      ∙ ap (λ (ys : List ℕ). old ++ ys) (adds_by x (slice_get trace x))
      ∙ ap (λ (ys : List ℕ). ys ++ adds_at of trace birth span x) so_far
      ∙ flat_map_more (adds_at of trace birth span) before (take k xs) x
      ∙ ap (λ (y : ℕ). before ++ flat_map (adds_at of trace birth span) (take k xs ++ y ∷ [])) is
      ∙ ap (λ (ys : List ℕ). before ++ flat_map (adds_at of trace birth span) ys) (sym (take_more xs k d low))

-- the members, one call less deep
pub one_deep : (depth : ℕ) (trace : List Entry) (birth : Birth) (span : ℕ) → 0 < depth
    → flat_map (adds_at (λ b. members_in (depth - 1) trace b 1) trace birth span) (span_places trace birth span)
    ≡ members_in depth trace birth span
one_deep zero trace birth span some = absurd (omega arith)
one_deep (suc n) trace birth span some =
    let less : suc n - 1 ≡ n = omega arith in
    ap (λ (d : ℕ). flat_map (adds_at (λ b. members_in d trace b 1) trace birth span) (span_places trace birth span)) less

-- behind the last entry
pub all_added : (depth : ℕ) (trace : List Entry) (birth : Birth) (span : ℕ) (xs : List ℕ) (k : ℕ) (before new : List ℕ) → 0 < depth
    → length xs ≤ k
    → xs ≡ span_places trace birth span → new ≡ before ++ flat_map (adds_at (λ b. members_in (depth - 1) trace b 1) trace birth span)
    (take k xs)
    → new ≡ before ++ members_in depth trace birth span
all_added depth trace birth span xs k before new some long is all =
    all
    ∙ ap (λ (ys : List ℕ). before ++ flat_map (adds_at (λ b. members_in (depth - 1) trace b 1) trace birth span) ys)
    (take_all k xs long ∙ is)
    ∙ ap (λ (ys : List ℕ). before ++ ys) (one_deep depth trace birth span some)

-- ---- members are reads

pub all_reads : (trace : List Entry) → MembersAreChains trace → (birth : Birth) (span : ℕ)
    → All (λ r. is_at (λ (e : Entry). reads e.call) trace r ≡ true) (members trace birth span)
all_reads trace chains birth span k d low =
    (chains birth span).0 (get_or (members trace birth span) k d) (Contains-get_or (members trace birth span) k d low)

-- and so they are places of the trace
pub all_within : (trace : List Entry) → MembersAreChains trace → (birth : Birth) (span : ℕ)
    → All (λ x. x < length trace) (members trace birth span)
all_within trace chains birth span =
    All-weaker (λ r. is_at (λ (e : Entry). reads e.call) trace r ≡ true) (λ x. x < length trace)
    (λ x is. by_entry x (slice_get trace x) refl is)
    (members trace birth span) (all_reads trace chains birth span)
  where
    by_entry : (x : ℕ) (found : Option Entry) → slice_get trace x ≡ found
        → option_map_or (λ (e : Entry). reads e.call) found false ≡ true → x < length trace
    by_entry x None none is = absurd (cc)
    by_entry x (Some e) at is = slice_get_within trace x e at
