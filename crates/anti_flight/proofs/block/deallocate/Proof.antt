-- `deallocate` makes the block of its empty fields, and hands it back with the heap's token. Assumes `Logic`.
use mathlib.Core.Path.{◌≡◌, refl, sym, ap, subst}
use Prim.Native.Nat.{ℕ}
use mathlib.Core.List.{List, [], ◌∷◌, ◌++◌}
use lib.Dec.{T}
use seplogic.Ra.Ura.{Ura}
use mir.Syntax.{Fn, named, ty_unit}
use mir.MapTy.{inst_fn}
use mir.Val.{Val, vptr, vunit, has_ty, WT}
use base.Logic.{SProp, ent, emp, via, fst∗}
use base.Fml.{Lft, Share, ftrue, froom, flft}
use prog.Memory.{Memory, size, align, capped}
use prog.Capped.{capped_fits}
use prog.RawLaws.{size-raw, align-raw}
use prog.Routine.{Routine}
use prog.Wp.{Env, Calls, Loops, WpFn, Tables}
use types.Logic.{Logic, sem}
use contract.Monad.{Fun}
use contract.Running.{tables, tables_of}
use sound.WpLaws.{FmC, fm_of, WpFn-mono}
use types.Kit.{Item, ⋆, ‵, raw, ◌⊛◌, given, later, await, learn, at_ret, ◌$◌, ◌∵◌, !, qed, by, move, keep, use1, use2, split, join, group, fsplit, fjoin, feq_i, feq_l, suffices, done}
use types.Part.{whole, sub}
use types.Run.{size_word, align_word, stop, fld, unit_lit, of_opd, and_then, no_more, first, blocks, exec, returns, enter}
use types.ByLocal.{alloc_all, pass_all, free_all, look_at, get, get_in, lands_last, sets, is, env}
use denote.Exit.{yes, no}
use denote.RattleType.{owns}
use denote.Memory.{hidden_shr}
use denote.RawPtr.{null_ptr, ptr_val, in_a_block}
use denote.Ref.{Bor, ShrRef}
use denote.Builtin.{RefOf, unit}
use denote.Signature.{plain}
use denote.Steps.{nothing}
use denote.Triple.Carry.{spared}
use denote.Triple.Clauses.{Clauses, Ended, closing}
use denote.Triple.Entry.{on_entry}
use denote.Triple.Spec.{Meets, triple_of}
use denote.Triple.Statement.{Triple}
use denote.Triple.Call.{calls_at_last}
use denote.Triple.Table.{entered, cited, run_framed}
use denote.Triple.Walked.{Stays, stay_dropped, walk_of, ends_at, Goes-dropped, walk_Meets}
use Rattle.std.proofs.alloc.Calls.{Goes-blank}
use Rattle.std.specs.contracts.alloc.Global as Global
use Rattle.std.proofs.impls.GlobalAllocator.deallocate.Symbol as callee_symbol
use Rattle.std.proofs.impls.GlobalAllocator.deallocate.Met as callee_met
use Rattle.std.proofs.VecSteps.Shapes.{after}
use Rattle.std.proofs.RcSteps.{word, word-Good}
use Rattle.anti_flight.specs.inner.Ownership.{room_owns, rest_room}
use Rattle.anti_flight.proofs.Memory.{One, args, RT, Rm, word_had, no_room}
use Rattle.anti_flight.proofs.Blocks.{written, block, block_glue}
use Rattle.anti_flight.proofs.Heap.{Gives, at_gives, Gives-goes, Gives-gives}
use Rattle.anti_flight.specs.contracts.block.deallocate.Key.{name as #self}
use Rattle.anti_flight.proofs.block.deallocate.Statement as stated
use Rattle.anti_flight.proofs.block.deallocate.Code as code

module _ (E : One) where
  abbrev function : Fn
  function = inst_fn (args E) code.function

  abbrev ended : Ended
  ended = record { signature = record { lifetimes = 1; outlives = []; params = RefOf (0 ∷ []) tt (plain (λ _. Global.the_row)) (λ _. tt) ∷ plain (λ _. Rm E) ∷ []; result = plain (λ _. unit) }; kept = (yes, (no, tt)) }

  abbrev stayed : Stays ended.signature.params ended.kept
  stayed = (stay_dropped (RefOf (0 ∷ []) tt (plain (λ _. Global.the_row)) (λ _. tt)) yes, (stay_dropped (plain (λ _. Rm E)) no, tt))

  abbrev spec : {M : Type 1} {𝓤 : Ura M} (𝓛 : Logic 𝓤) → Clauses 𝓤 ended
  spec {𝓤 = 𝓤} 𝓛 κs a = record { ghost = Unit {0}; requires = λ _. emp 𝓤; ensures = λ _ r w. emp 𝓤 }

module _ (E : One) {M : Type 1} {𝓤 : Ura M} (𝓛 : Logic 𝓤) (at_mem : Memory → SProp 𝓤) (run : Routine → Fun 𝓤) (C : Calls 𝓤 𝓛.H) (Λ : Loops 𝓤 𝓛.H) (fm : FmC 𝓤 𝓛.H 𝓛.laws C)
    (callee : Triple 𝓤 (C callee_symbol.name) (Gives 𝓛 at_mem run)) (κ : Lft) (q : Share) (rb ro : ℕ) (a : Global.the_row.Denot) (room : (Rm E).Denot) (us0 us1 : List Val) where
  open 𝓛 use {H, A}

  abbrev self : Bor Global.the_row.Denot
  self = record { ref_ptr = (rb, ro); now = a }

  abbrev bound : (walk_of 𝓛 (ended E) (stayed E) (spec E 𝓛)).Ghost
  bound = (((κ, tt), (q, tt), tt, (self, (room, tt)), (us0, (us1, tt))), tt)

  abbrev Post : Val → SProp 𝓤
  Post = (walk_of 𝓛 (ended E) (stayed E) (spec E 𝓛)).post bound

  exits : ent 𝓤 (⋆ 𝓛 (‵ (flft κ q) ∷ [])) (Post vunit)
  exits =
      qed 𝓛 (‵ (flft κ q) ∷ []) ∵
      suffices ! _ (ends_at 𝓛 (ended E) (stayed E) (spec E 𝓛) bound vunit tt (tt, (tt, tt)) (tt, (tt, tt))) $
      feq_i ! (List Val) (vunit ∷ []) (vunit ∷ []) refl $ nothing ! $ nothing ! $ fjoin ! $ nothing ! $ fjoin ! $ join ! $
      nothing ! $ move ! (2 ∷ 0 ∷ []) $ join ! $ join ! $ nothing ! $ move ! (1 ∷ 0 ∷ []) $ done !

  abbrev Had : List (Item 𝓤)
  Had = ‵ (room_owns (RT E) room.ptr) ∷ ‵ (hidden_shr Global.the_row κ a rb ro) ∷ ‵ (flft κ q) ∷ []

  walk : ent 𝓤 (⋆ 𝓛 Had) (WpFn 𝓤 H C Λ (function E) (vptr rb ro ∷ word room.ptr ∷ []) Post)
  walk =
      qed 𝓛 Had ∵ enter ! C Λ (function E) (vptr rb ro ∷ word room.ptr ∷ []) _ $ alloc_all ! (λ l. pass_all ! refl ((tt, tt), (word-Good [] room.ptr, tt)) $
      let En : Env 𝓤 H = env (function E).locals l in
      let s : ℕ = capped (size (written E)) in
      let al : ℕ = capped (align (written E)) in
      in_a_block ! room.ptr (room_owns (RT E)) (via 𝓤 _ (fst∗ 𝓤 _ (sem 𝓛 (rest_room (RT E) null_ptr))) (no_room 𝓛)) (λ b o ep.
      let y : (Gives 𝓛 at_mem run).Ghost = at_gives 𝓛 at_mem run κ q (rb, ro) a b o s al (block E) in
      fsplit ! $ move ! (1 ∷ []) $ fsplit ! $ move ! (1 ∷ []) $ fsplit ! $
      -- [the token; the way back; room for the value, and for the links; the handle; the lifetime's token]
      move ! (3 ∷ 2 ∷ []) $ fjoin ! $ move ! (0 ∷ 2 ∷ []) $ use2 𝓛 (‵ (froom (block E) b o)) (block_glue E 𝓛 b o) $
      sets ! (is ! (of_opd ! (get_in ! (fld ! refl (stop !)) (sub ! 0 refl (whole !)))) (ap ptr_val ep)) refl (tt, tt) $ first ! $ blocks ! $ sets ! (of_opd ! (get ! refl)) refl (tt, tt) $
      group ! 4 $ use1 𝓛 (raw ((Gives 𝓛 at_mem run).pre y)) (Gives-goes 𝓛 at_mem run κ q (rb, ro) a b o s al (block E) (ap capped (size-raw (written E))) (ap capped (align-raw (written E))) (capped_fits (size (written E))) (capped_fits (align (written E)))) $
      calls_at_last ! fm (Gives 𝓛 at_mem run) callee y (and_then ! (get ! refl) (and_then ! (get ! refl) (and_then ! (size_word !) (and_then ! (align_word !) (no_more !))))) (λ v.
      use1 𝓛 (later (given (v ≡ vunit) (‵ (flft κ q)))) (Gives-gives 𝓛 at_mem run κ q (rb, ro) a b o s al (block E) v) $ await ! tt $ learn ! (λ e.
      lands_last ! refl (subst (λ (z : Val). T (has_ty ty_unit z) × WT z) (sym e) (tt, tt)) $ exec ! C Λ En (after 2 (function E).body) (at_ret En Post) $
      sets ! (of_opd ! (unit_lit !)) refl (tt, tt) $ returns ! (look_at ! 0 refl) $ free_all ! refl $ keep ! (0 ∷ []) $ by ! exits))))

  entry : ent 𝓤 (on_entry 𝓛 (ended E).signature (κ, tt) (q, tt) (self, (room, tt)) (us0, (us1, tt))) (WpFn 𝓤 H C Λ (function E) (us0 ++ (us1 ++ [])) Post)
  entry =
      qed 𝓛 ((‵ (flft κ q) ⊛ ‵ ftrue) ∷ ‵ (owns (ShrRef (named 0) κ Global.the_row ∷ Rm E ∷ []) (self, (room, tt)) (us0, (us1, tt))) ∷ []) ∵ split ! $ move ! (2 ∷ []) $ fsplit ! $ fsplit ! $ feq_l ! (λ e0.
      move ! (1 ∷ []) $ fsplit ! $ fsplit ! $ word_had ! room.ptr us1 (λ e1.
      keep ! (0 ∷ 2 ∷ 3 ∷ []) $
      by ! (subst (λ (ws : List Val × List Val). ent 𝓤 (⋆ 𝓛 Had) (WpFn 𝓤 H C Λ (function E) (ws.0 ++ (ws.1 ++ [])) Post)) (λ j. (sym e0 j, sym e1 j)) walk)))

meets : (E : One) {M : Type 1} {𝓤 : Ura M} (𝓛 : Logic 𝓤) (at_mem : Memory → SProp 𝓤) (run : Routine → Fun 𝓤) (𝓣 : Tables 𝓤 𝓛.H) → Triple 𝓤 (𝓣.C callee_symbol.name) (Gives 𝓛 at_mem run)
    → Meets 𝓛 (ended E).signature (WpFn 𝓤 𝓛.H 𝓣.C 𝓣.Λ (function E)) (closing 𝓛 (ended E) (spec E 𝓛))
meets E {𝓤 = 𝓤} 𝓛 at_mem run 𝓣 callee =
    walk_Meets 𝓛 (ended E) (stayed E) (Goes-dropped 𝓛 1 (RefOf (0 ∷ []) tt (plain (λ _. Global.the_row)) (λ _. tt)) yes (λ κs x f. refl), (Goes-blank 𝓛 1 (plain (λ _. Rm E)) no (λ κs x f. tt), tt))
    (spec E 𝓛) (WpFn 𝓤 𝓛.H 𝓣.C 𝓣.Λ (function E)) (WpFn-mono 𝓤 𝓛.H 𝓛.laws 𝓣 (function E))
    (λ z. via 𝓤 _ (fst∗ 𝓤 _ (emp 𝓤)) (entry E 𝓛 at_mem run 𝓣.C 𝓣.Λ (fm_of 𝓤 𝓛.H 𝓛.laws 𝓣) callee z.0.0.0 z.0.1.0 z.0.3.0.ref_ptr.0 z.0.3.0.ref_ptr.1 z.0.3.0.now z.0.3.1.0 z.0.4.0 z.0.4.1.0))

pub deallocate_spec : {M : Type 1} → stated.statement M
unfolding tables_of
deallocate_spec 𝓤 𝓛 𝓜 𝓡 wired X L y =
    let E : One = record { row = X; laws = L } in
    let 𝓣 : Tables 𝓤 𝓛.H = tables_of 𝓤 𝓛.H 𝓜 (tables 𝓤 𝓛.H 𝓜 𝓡 𝓡.env) in
    let k = #self (args E) in
    let callee = cited 𝓤 𝓛.H _ 𝓜 𝓡 𝓡.env callee_symbol.name (𝓡.env callee_symbol.name) refl (callee_met.met 𝓤 𝓛 𝓜 𝓡 (code.calls-std_heap::GlobalAllocator::deallocate 𝓡.env wired)) in
    spared 𝓛 (ended E).signature (𝓡.run (𝓡.env k)) (run_framed 𝓤 𝓛.H 𝓜 𝓡 (𝓡.env k)) 1 (X.lives, tt) (closing 𝓛 (ended E) (spec E 𝓛))
    (entered 𝓤 𝓛.H (triple_of 𝓛 (ended E).signature (closing 𝓛 (ended E) (spec E 𝓛))) 𝓣.C 𝓣.Λ k (function E) (code.unfolded 𝓤 𝓛.H 𝓜 𝓡 wired (X, tt)) (meets E 𝓛 𝓜.mem 𝓡.returns 𝓣 callee))
    ((y.0.0, y.0.1, tt, y.0.3, y.0.4), y.1)
