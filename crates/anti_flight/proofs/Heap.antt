-- `allocate` and `deallocate` of the heap at a call. Assumes `Logic`.
--     Takes, Gives         their contracts
--     Answered, answers    what `allocate` gives, and a walk's step: the two cases of its answer
--     Takes-goes, Takes-gives, Gives-goes, Gives-gives      what each is handed, a `&` to the handle and a token of its lifetime, and what a caller has of it
use mathlib.Core.Path.{◌≡◌, refl, ap, ◌∙◌}
use mathlib.Core.Bool.{Bool, true, false}
use Prim.Native.Nat.{ℕ, ◌<◌, ◌^◌}
use mathlib.Core.List.{List, [], ◌∷◌, ◌++◌}
use seplogic.Ra.Ura.{Ura}
use mir.Syntax.{Ty, w64}
use mir.Val.{Val, vunit, vint, vptr, of_list}
use base.Logic.{SProp, ent, sep, ex, guard, emp, id⊢, fst∗, never}
use base.Fml.{Lft, Share, ftrue, fsep, froom, flft}
use prog.Memory.{Memory, size, align, capped}
use prog.Routine.{Routine}
use types.Logic.{Logic, sem}
use types.Match.{live}
use types.Kit.{Item, Goal, Seq, ‵, raw, ◌⊛◌, some, given, later, learn, ◌$◌, ◌∵◌, !, qed, move, keep, use0, use1, use2, drop, split, join, pick, fsplit, fjoin, fpick, feq_l, feq_i, flt_i, check, show, await, updating, now as at_once, done}
use contract.Monad.{Fun, fact, fact_i}
use denote.Memory.{hidden_shr}
use denote.RawPtr.{Ptr, block_ptr, null_ptr, ptr_val, room_for, in_a_block}
use denote.Builtin.{unit}
use denote.Steps.{only, nothing}
use denote.Triple.Statement.{Contract}
use denote.Triple.Spec.{triple_of}
use Rattle.std.specs.Allocator.{block_if_ok}
use Rattle.std.specs.declared.result.Result.TheVariants.{Ok, Err}
use Rattle.std.proofs.alloc.Calls.{Answer, answer_val, got}
use Rattle.anti_flight.specs.inner.Ownership.{token}
use Rattle.std.specs.contracts.alloc.Global as Global
use Rattle.std.specs.contracts.impls.GlobalAllocator.allocate as AL
use Rattle.std.specs.contracts.impls.GlobalAllocator.deallocate as DE

-- what `allocate` answered as v has given
abbrev pub Answered : {M : Type 1} {𝓤 : Ura M} (𝓛 : Logic 𝓤) → Ty → Val → SProp 𝓤
Answered {𝓤 = 𝓤} 𝓛 τ v = ex 𝓤 (λ (c : Bool × (ℕ × ℕ)). guard 𝓤 (v ≡ answer_val c.0 c.1.0 c.1.1) (sem 𝓛 (got token τ c.0 c.1.0 c.1.1)))

module _ {M : Type 1} {𝓤 : Ura M} {𝓛 : Logic 𝓤} {K : Type 0} {Γ : List (Item 𝓤)} {G : Goal 𝓤 𝓛.H} where
  answers_at : (τ : Ty) (v : Val) (y : Bool) (b o : ℕ) → K → v ≡ answer_val y b o
      → ((b o : ℕ) → v ≡ answer_val true b o → Seq K 𝓛 (‵ (froom τ b o) ∷ ‵ (token τ (block_ptr b o)) ∷ Γ) G) → (v ≡ answer_val false 0 0 → Seq K 𝓛 Γ G) → Seq K 𝓛 (‵ (got token τ y b o) ∷ Γ) G
  answers_at τ v true b o t e ok none = fsplit t $ ok b o e
  answers_at τ v false b o t e ok none = drop t $ none e

  -- a walk goes on by the two cases
  pub answers : K → (τ : Ty) (v : Val)
      → ((b o : ℕ) → v ≡ answer_val true b o → Seq K 𝓛 (‵ (froom τ b o) ∷ ‵ (token τ (block_ptr b o)) ∷ Γ) G) → (v ≡ answer_val false 0 0 → Seq K 𝓛 Γ G) → Seq K 𝓛 (raw (Answered 𝓛 τ v) ∷ Γ) G
  answers t τ v ok none =
      use1 𝓛 (some (λ (c : Bool × (ℕ × ℕ)). given (v ≡ answer_val c.0 c.1.0 c.1.1) (‵ (got token τ c.0 c.1.0 c.1.1)))) (id⊢ 𝓤 (Answered 𝓛 τ v)) $
      pick t (λ c. learn t (λ e. answers_at τ v c.0 c.1.0 c.1.1 t e ok none))

module _ {M : Type 1} {𝓤 : Ura M} (𝓛 : Logic 𝓤) (at_mem : Memory → SProp 𝓤) (run : Routine → Fun 𝓤) where
  open 𝓛 use {H, A}

  abbrev pub Takes : Contract 𝓤
  Takes = triple_of 𝓛 AL.signature (AL.spec 𝓛 at_mem run)

  abbrev pub Gives : Contract 𝓤
  Gives = triple_of 𝓛 DE.signature (DE.spec 𝓛 at_mem run)

  module _ (κ : Lft) (q : Share) (p : ℕ × ℕ) (a : Global.the_row.Denot) where
    abbrev pub at_takes : ℕ → ℕ → Ty → Takes.Ghost
    at_takes s al τ = (((κ, tt), (q, tt), tt, (record { ref_ptr = p; now = a }, (s, (al, tt))), (vptr p.0 p.1 ∷ [], (vint w64 s ∷ [], (vint w64 al ∷ [], tt)))), τ)

    abbrev pub at_gives : ℕ → ℕ → ℕ → ℕ → Ty → Gives.Ghost
    at_gives b o s al τ = (((κ, tt), (q, tt), tt, (record { ref_ptr = p; now = a }, (block_ptr b o, (s, (al, tt)))), (vptr p.0 p.1 ∷ [], (vptr b o ∷ [], (vint w64 s ∷ [], (vint w64 al ∷ [], tt))))), τ)

    pub Takes-goes : (s al : ℕ) (τ : Ty) → capped (size τ) ≡ s → capped (align τ) ≡ al → s < 2 ^ 64 → al < 2 ^ 64
        → ent 𝓤 (sep 𝓤 (sem 𝓛 (hidden_shr Global.the_row κ a p.0 p.1)) (A.lft κ q)) (Takes.pre (at_takes s al τ))
    Takes-goes s al τ es ea fs fa =
        qed 𝓛 (‵ (hidden_shr Global.the_row κ a p.0 p.1) ∷ ‵ (flft κ q) ∷ []) ∵
        use0 𝓛 (raw (fact 𝓤 ((capped (size τ) ≡ s) × (capped (align τ) ≡ al)))) (fact_i 𝓤 ((capped (size τ) ≡ s) × (capped (align τ) ≡ al)) (emp 𝓤) (es, ea)) $
        nothing ! $ flt_i ! al (2 ^ 64) fa $ feq_i ! (List Val) (vint w64 al ∷ []) (vint w64 al ∷ []) refl $ fjoin ! $ fjoin ! $
        flt_i ! s (2 ^ 64) fs $ feq_i ! (List Val) (vint w64 s ∷ []) (vint w64 s ∷ []) refl $ fjoin ! $ fjoin ! $ move ! (2 ∷ []) $ feq_i ! (List Val) (vptr p.0 p.1 ∷ []) (vptr p.0 p.1 ∷ []) refl $ fjoin ! $ move ! (0 ∷ 1 ∷ []) $ fjoin ! $
        move ! (2 ∷ []) $ nothing ! $ move ! (1 ∷ 0 ∷ []) $ join ! $ join ! $ done !

    answered : (τ : Ty) (v : Val) (r : Answer.Denot) → ent 𝓤 (sep 𝓤 (sem 𝓛 (Answer.own_val r (v ∷ []))) (sem 𝓛 (block_if_ok token τ r))) (Answered 𝓛 τ v)
    answered τ v (Ok r) =
        qed 𝓛 (‵ (Answer.own_val (Ok r) (v ∷ [])) ∷ ‵ (fsep (room_for τ r) (token τ r)) ∷ []) ∵
        fpick ! (λ us. fsplit ! $ feq_l ! (λ e. fpick ! (λ vss. fsplit ! $ feq_l ! (λ e'. fsplit ! $ feq_l ! (λ e''. drop ! $
        in_a_block ! r (λ z. fsep (room_for τ z) (token τ z)) (fst∗ 𝓤 (never 𝓤) (sem 𝓛 (token τ null_ptr))) (λ b o at.
        show ! (λ (c : Bool × (ℕ × ℕ)). guard 𝓤 (v ≡ answer_val c.0 c.1.0 c.1.1) (sem 𝓛 (got token τ c.0 c.1.0 c.1.1))) (true, (b, o)) $
        check ! (ap only e ∙ ap (λ (ws : List Val). live 0 (of_list ws)) (e' ∙ ap (λ (ws : List Val). ws ++ []) (e'' ∙ ap (λ (z : Ptr). ptr_val z ∷ []) at))) $ done !))))))
    answered τ v (Err n) =
        qed 𝓛 (‵ (Answer.own_val (Err n) (v ∷ [])) ∷ ‵ ftrue ∷ []) ∵
        fpick ! (λ us. fsplit ! $ feq_l ! (λ e. fpick ! (λ vss. fsplit ! $ feq_l ! (λ e'. fsplit ! $ fpick ! (λ none. fsplit ! $ feq_l ! (λ e''. keep ! [] $
        show ! (λ (c : Bool × (ℕ × ℕ)). guard 𝓤 (v ≡ answer_val c.0 c.1.0 c.1.1) (sem 𝓛 (got token τ c.0 c.1.0 c.1.1))) (false, (0, 0)) $
        check ! (ap only e ∙ ap (λ (ws : List Val). live 1 (of_list ws)) (e' ∙ ap (λ (ws : List Val). ws ++ []) e'')) $ done !))))))

    pub Takes-gives : (s al : ℕ) (τ : Ty) (v : Val)
        → ent 𝓤 (Takes.post (at_takes s al τ) v) (H.⇛ (sep 𝓤 (Answered 𝓛 τ v) (A.lft κ q)))
    Takes-gives s al τ v =
        qed 𝓛 (raw (Takes.post (at_takes s al τ) v) ∷ []) ∵ updating ! $
        use1 𝓛 (later (some (λ (r : Answer.Denot). ((‵ (flft κ q) ⊛ ‵ ftrue) ⊛ ‵ (Answer.own_val r (v ∷ [])))
        ⊛ some (λ (ws : Unit {0} × (Unit {0} × (Unit {0} × Unit {0}))). ‵ (fsep ftrue (fsep ftrue (fsep ftrue ftrue))) ⊛ ‵ (block_if_ok token τ r))))) (id⊢ 𝓤 _) $ await ! tt $ pick ! (λ r.
        split ! $ move ! (1 ∷ []) $ pick ! (λ ws. split ! $ drop ! $ move ! (1 ∷ []) $ split ! $ split ! $ keep ! (2 ∷ 3 ∷ 0 ∷ []) $
        use2 𝓛 (raw (Answered 𝓛 τ v)) (answered τ v r) $ at_once ! $ done !))

    pub Gives-goes : (b o s al : ℕ) (τ : Ty) → capped (size τ) ≡ s → capped (align τ) ≡ al → s < 2 ^ 64 → al < 2 ^ 64
        → ent 𝓤 (sep 𝓤 (H.room τ b o) (sep 𝓤 (sem 𝓛 (token τ (block_ptr b o))) (sep 𝓤 (sem 𝓛 (hidden_shr Global.the_row κ a p.0 p.1)) (A.lft κ q)))) (Gives.pre (at_gives b o s al τ))
    Gives-goes b o s al τ es ea fs fa =
        qed 𝓛 (‵ (froom τ b o) ∷ ‵ (token τ (block_ptr b o)) ∷ ‵ (hidden_shr Global.the_row κ a p.0 p.1) ∷ ‵ (flft κ q) ∷ []) ∵ fjoin ! $
        use0 𝓛 (raw (fact 𝓤 ((capped (size τ) ≡ s) × (capped (align τ) ≡ al)))) (fact_i 𝓤 ((capped (size τ) ≡ s) × (capped (align τ) ≡ al)) (emp 𝓤) (es, ea)) $ join ! $
        nothing ! $ flt_i ! al (2 ^ 64) fa $ feq_i ! (List Val) (vint w64 al ∷ []) (vint w64 al ∷ []) refl $ fjoin ! $ fjoin ! $
        flt_i ! s (2 ^ 64) fs $ feq_i ! (List Val) (vint w64 s ∷ []) (vint w64 s ∷ []) refl $ fjoin ! $ fjoin ! $
        feq_i ! (List Val) (vptr b o ∷ []) (vptr b o ∷ []) refl $ fjoin ! $ move ! (2 ∷ []) $ feq_i ! (List Val) (vptr p.0 p.1 ∷ []) (vptr p.0 p.1 ∷ []) refl $ fjoin ! $ move ! (0 ∷ 1 ∷ []) $ fjoin ! $
        move ! (2 ∷ []) $ nothing ! $ move ! (1 ∷ 0 ∷ []) $ join ! $ join ! $ done !

    pub Gives-gives : (b o s al : ℕ) (τ : Ty) (v : Val)
        → ent 𝓤 (Gives.post (at_gives b o s al τ) v) (H.⇛ (guard 𝓤 (v ≡ vunit) (A.lft κ q)))
    Gives-gives b o s al τ v =
        qed 𝓛 (raw (Gives.post (at_gives b o s al τ) v) ∷ []) ∵ updating ! $
        use1 𝓛 (later (some (λ (r : Unit {0}). ((‵ (flft κ q) ⊛ ‵ ftrue) ⊛ ‵ (unit.own_val r (v ∷ []))) ⊛ some (λ (ws : Unit {0} × (Unit {0} × (Unit {0} × (Unit {0} × Unit {0})))). ‵ (fsep ftrue (fsep ftrue (fsep ftrue (fsep ftrue ftrue)))) ⊛ ‵ ftrue)))) (id⊢ 𝓤 _) $ await ! tt $ pick ! (λ r.
        split ! $ split ! $ move ! (1 ∷ []) $ feq_l ! (λ e. split ! $ at_once ! $ check ! (ap only e) $ keep ! (0 ∷ []) $ done !))
