-- The requests that a generator draws, one by one.
use Rattle.std.proofs.Common.{◌≡◌, ℕ, zero, suc, ◌+◌, ◌-◌, ◌<◌, ◌≤◌, List, [], ◌∷◌, ◌++◌, length, map, refl, sym, ap, ◌∙◌, append_assoc, append-nil, arith}
use Rattle.rand_core.specs.Steps.{first_words}
use Rattle.rand_pcg.specs.Lcg.{Lcg}
use Rattle.rand_pcg.specs.Pcg.{pcg32}
use Rattle.anti_ids.specs.List.{Listed, plain}
use Rattle.anti_ids.specs.ListCalls.{pushed}
use Rattle.anti_app.specs.declared.app.RequestDef.{RequestDef}
use Rattle.anti_load.specs.Load.{request_of}

-- so many requests, as a generator draws them
abbrev pub requests_of : ℕ → Lcg → List RequestDef
requests_of count g = map request_of (first_words pcg32 count g)

pub as_many_words : (n : ℕ) (g : Lcg) → length (first_words pcg32 n g) ≡ n
unfolding first_words
as_many_words zero g = refl
as_many_words (suc n) g = ap suc (as_many_words n (pcg32 g).1)

module _ (n drawn : ℕ) (g : Lcg) where
  -- where words are left, the first is the generator's next
  word_more : drawn < n → first_words pcg32 (n - drawn) g ≡ (pcg32 g).0 ∷ first_words pcg32 (n - (drawn + 1)) (pcg32 g).1
  unfolding first_words
  word_more left = let e : n - drawn ≡ suc (n - (drawn + 1)) = omega arith in rw e refl

  -- the request of the next word goes behind those that were made, in front of those that are left
  pub draws_next : (after : Lcg) (word : ℕ) (request : RequestDef) (made more : Listed RequestDef) → drawn < n → (word, after) ≡ pcg32 g
      → request ≡ request_of word → more ≡ pushed made request
      → more.items ++ requests_of (n - (drawn + 1)) after ≡ made.items ++ requests_of (n - drawn) g
  draws_next after word request made more left next is goes_behind =
      let rest : ℕ = n - (drawn + 1) in
      ap (λ (l : Listed RequestDef). l.items ++ requests_of rest after) goes_behind
      ∙ append_assoc made.items (request ∷ []) (requests_of rest after)
      ∙ ap (λ (first : RequestDef). made.items ++ first ∷ requests_of rest after) is
      ∙ ap (λ (p : ℕ × Lcg). made.items ++ map request_of (p.0 ∷ first_words pcg32 rest p.1)) next
      ∙ ap (λ (words : List ℕ). made.items ++ map request_of words) (sym (word_more left))

  -- no word is left where all are drawn
  none_left : n ≤ drawn → first_words pcg32 (n - drawn) g ≡ []
  unfolding first_words
  none_left all = let e : n - drawn ≡ 0 = omega arith in rw e refl

  pub all_drawn : (made : Listed RequestDef) (requests : List RequestDef) → n ≤ drawn → made.items ++ requests_of (n - drawn) g ≡ requests
      → made.spare ≡ 0 → made ≡ plain requests
  all_drawn made requests all stated spare =
      let none : [] ≡ requests_of (n - drawn) g = ap (map request_of) (sym (none_left all)) in
      let items : made.items ≡ requests = sym (append-nil made.items) ∙ ap (λ more. made.items ++ more) none ∙ stated in
      λ i. record { items = items i; spare = spare i }
