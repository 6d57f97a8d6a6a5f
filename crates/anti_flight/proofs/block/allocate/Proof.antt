-- `allocate` cuts the new block into room for its fields and the right to free it. Assumes `Logic`.
use mathlib.Core.Path.{refl, sym, ap, subst}
use mathlib.Core.Bool.{true, false}
use Prim.Native.Nat.{ℕ}
use mathlib.Core.List.{List, [], ◌∷◌, ◌++◌}
use lib.Dec.{lit<}
use seplogic.Ra.Ura.{Ura}
use mir.Syntax.{Fn, Body, named}
use mir.MapTy.{inst_fn}
use mir.Val.{Val, vptr, vstruct, vcons, vnil}
use base.Logic.{SProp, ent, emp, via, fst∗}
use base.Fml.{Lft, Share, ftrue, flft}
use prog.Memory.{Memory, size, align, capped}
use prog.Capped.{capped_fits}
use prog.RawLaws.{size-raw, align-raw}
use prog.Routine.{Routine}
use prog.Wp.{Env, Calls, Loops, WpFn, Tables, Wp, after_seq, at_return}
use types.Logic.{Logic}
use contract.Monad.{Fun}
use contract.Running.{tables, tables_of}
use sound.WpLaws.{FmC, fm_of, WpFn-mono}
use types.Kit.{Item, ⋆, ‵, raw, ◌⊛◌, Post as After, any_q, later, await, at_ret, ◌$◌, ◌∵◌, !, qed, by, move, keep, use1, use2, split, join, fsplit, fjoin, feq_l, suffices, done}
use types.Part.{whole, agg}
use types.Match.{live, vrt, in_variant}
use types.Run.{size_word, align_word, switches_on, stop, fld, lit, of_opd, and_then, no_more, first, exec, returns, enter}
use types.ByLocal.{alloc_all, pass_all, free_all, look_at, get, get_in, get_tag, lands_as, sets, sets_last, env}
use denote.Exit.{yes}
use denote.RattleType.{RattleType, owns}
use denote.Laws.{Is}
use denote.Memory.{hidden_shr}
use denote.Param.{layout}
use denote.RawPtr.{Ptr, block_ptr}
use denote.Ref.{Bor, ShrRef}
use denote.Builtin.{RefOf}
use denote.Signature.{plain}
use denote.Steps.{nothing, owned}
use denote.Struct.Struct.{Struct, Struct-Makes}
use denote.Struct.Declared as Declared
use denote.Triple.Carry.{spared}
use denote.Triple.Clauses.{Clauses, Ended, closing}
use denote.Triple.Entry.{on_entry}
use denote.Triple.Spec.{Meets, triple_of}
use denote.Triple.Statement.{Triple}
use denote.Triple.Call.{calls_at}
use denote.Triple.Table.{entered, cited, run_framed}
use denote.Triple.Walked.{Stays, stay_dropped, walk_of, ends_at, Goes-dropped, walk_Meets}
use Rattle.std.specs.Prelude.{Ok, Err}
use Rattle.std.specs.contracts.result.Result as RS
use Rattle.std.specs.contracts.alloc.AllocError as AE
use Rattle.std.proofs.alloc.Calls.{Answer-typed}
use Rattle.std.specs.contracts.alloc.Global as Global
use Rattle.std.proofs.impls.GlobalAllocator.allocate.Symbol as callee_symbol
use Rattle.std.proofs.impls.GlobalAllocator.allocate.Met as callee_met
use Rattle.std.proofs.VecSteps.Shapes.{after, head, arm_body}
use Rattle.std.proofs.ResultValues.{ok_of, err_of}
use Rattle.std.proofs.RcSteps.{word, word-Good, first_Good}
use Rattle.anti_flight.specs.inner.Ownership.{rejoins}
use Rattle.anti_flight.proofs.Memory.{One, args, RT, Rm, word_made}
use Rattle.anti_flight.proofs.Blocks.{written, block, fields_room, block_cut}
use Rattle.anti_flight.proofs.Heap.{Answered, answers, Takes, at_takes, Takes-goes, Takes-gives}
use Rattle.anti_flight.specs.contracts.block.allocate.Key.{name as #self}
use Rattle.anti_flight.proofs.block.allocate.Statement as stated
use Rattle.anti_flight.proofs.block.allocate.Code as code

module _ (E : One) where
  abbrev function : Fn
  function = inst_fn (args E) code.function

  abbrev Out : RattleType
  Out = RS.the_row (Rm E) AE.the_row

  abbrev ended : Ended
  ended = record { signature = record { lifetimes = 1; outlives = []; params = RefOf (0 ∷ []) tt (plain (λ _. Global.the_row)) (λ _. tt) ∷ []; result = plain (λ _. Out) }; kept = (yes, tt) }

  abbrev stayed : Stays ended.signature.params ended.kept
  stayed = (stay_dropped (RefOf (0 ∷ []) tt (plain (λ _. Global.the_row)) (λ _. tt)) yes, tt)

  abbrev spec : {M : Type 1} {𝓤 : Ura M} (𝓛 : Logic 𝓤) → Clauses 𝓤 ended
  spec {𝓤 = 𝓤} 𝓛 κs a = record { ghost = Unit {0}; requires = λ _. emp 𝓤; ensures = λ _ r w. emp 𝓤 }

module _ (E : One) {M : Type 1} {𝓤 : Ura M} (𝓛 : Logic 𝓤) (at_mem : Memory → SProp 𝓤) (run : Routine → Fun 𝓤) (C : Calls 𝓤 𝓛.H) (Λ : Loops 𝓤 𝓛.H) (fm : FmC 𝓤 𝓛.H 𝓛.laws C)
    (callee : Triple 𝓤 (C callee_symbol.name) (Takes 𝓛 at_mem run)) (κ : Lft) (q : Share) (rb ro : ℕ) (a : Global.the_row.Denot) (us0 : List Val) where
  open 𝓛 use {H, A}

  abbrev self : Bor Global.the_row.Denot
  self = record { ref_ptr = (rb, ro); now = a }

  abbrev bound : (walk_of 𝓛 (ended E) (stayed E) (spec E 𝓛)).Ghost
  bound = (((κ, tt), (q, tt), tt, (self, tt), (us0, tt)), tt)

  abbrev Post : Val → SProp 𝓤
  Post = (walk_of 𝓛 (ended E) (stayed E) (spec E 𝓛)).post bound

  exits : (r : (Out E).Denot) (v : Val) → ent 𝓤 (⋆ 𝓛 (‵ ((Out E).own_val r (v ∷ [])) ∷ ‵ (flft κ q) ∷ [])) (Post v)
  exits r v =
      qed 𝓛 (‵ ((Out E).own_val r (v ∷ [])) ∷ ‵ (flft κ q) ∷ []) ∵
      suffices ! _ (ends_at 𝓛 (ended E) (stayed E) (spec E 𝓛) bound v r (tt, tt) (tt, tt)) $
      nothing ! $ nothing ! $ fjoin ! $ join ! $ nothing ! $ move ! (2 ∷ 0 ∷ []) $ join ! $ join ! $ nothing ! $ move ! (1 ∷ 0 ∷ []) $ done !

  abbrev Had : List (Item 𝓤)
  Had = ‵ (hidden_shr Global.the_row κ a rb ro) ∷ ‵ (flft κ q) ∷ []

  walk : ent 𝓤 (⋆ 𝓛 Had) (WpFn 𝓤 H C Λ (function E) (vptr rb ro ∷ []) Post)
  walk =
      qed 𝓛 Had ∵ enter ! C Λ (function E) (vptr rb ro ∷ []) _ $ alloc_all ! (λ l. pass_all ! refl ((tt, tt), tt) $
      let En : Env 𝓤 H = env (function E).locals l in
      let both : Body = head (after 1 (function E).body) in
      let Then : After 𝓤 H = any_q (after_seq 𝓤 H (Wp 𝓤 H C Λ En (after 2 (function E).body) (at_return 𝓤 H En Post)) (at_return 𝓤 H En Post)) in
      let s : ℕ = capped (size (written E)) in
      let al : ℕ = capped (align (written E)) in
      let y : (Takes 𝓛 at_mem run).Ghost = at_takes 𝓛 at_mem run κ q (rb, ro) a s al (block E) in
      use2 𝓛 (raw ((Takes 𝓛 at_mem run).pre y)) (Takes-goes 𝓛 at_mem run κ q (rb, ro) a s al (block E) (ap capped (size-raw (written E))) (ap capped (align-raw (written E))) (capped_fits (size (written E))) (capped_fits (align (written E)))) $
      calls_at ! fm (Takes 𝓛 at_mem run) callee y (and_then ! (get ! refl) (and_then ! (size_word !) (and_then ! (align_word !) (no_more !)))) (λ v.
      use1 𝓛 (later (raw (Answered 𝓛 (block E) v) ⊛ ‵ (flft κ q))) (Takes-gives 𝓛 at_mem run κ q (rb, ro) a s al (block E) v) $ await ! tt $ split ! $
      answers ! (block E) v
      (λ b o e.
      let p : Ptr = block_ptr b o in
      let room : (Rm E).Denot = record { ptr = p } in
      let made : Val = word p in
      let ok = first_Good (layout (Rm E)) made (word-Good [] p) in
      lands_as ! e refl (Answer-typed true b o) $ first ! $ switches_on ! (get_tag ! (vrt ! refl (fld ! refl (stop !))) (whole !)) $ exec ! C Λ En (arm_body 0 both) Then $
      sets ! (of_opd ! (get_in ! (vrt ! refl (fld ! refl (stop !))) (in_variant ! 0 0 refl refl (whole !)))) refl (tt, tt) $ sets ! (of_opd ! (get ! refl)) refl (tt, tt) $
      sets ! (agg ! (and_then ! (get ! refl) (no_more !))) refl (word-Good [] p) $
      sets_last ! (agg ! (and_then ! (lit ! tt) (and_then ! (get ! refl) (no_more !)))) refl ok $
      exec ! C Λ En (after 2 (function E).body) (at_ret En Post) $ sets ! (of_opd ! (get ! refl)) refl ok $
      -- [the block; its token; the lifetime's token]
      use1 𝓛 (‵ (fields_room E p) ⊛ ‵ (rejoins (RT E) p)) (block_cut E 𝓛 b o) $ split ! $ fsplit ! $
      -- [room for the links, and for the value; the way back; the token]
      move ! (3 ∷ 2 ∷ []) $ fjoin ! $ move ! (2 ∷ 0 ∷ []) $ fjoin ! $ move ! (1 ∷ 0 ∷ []) $ fjoin ! $ word_made ! p $ fjoin ! $
      use1 𝓛 (‵ ((Out E).own_val (Ok room) (live 0 (vcons made vnil) ∷ []))) (ok_of 𝓛 (Rm E) AE.the_row room made) $
      returns ! (look_at ! 0 refl) $ free_all ! refl $ keep ! (0 ∷ 1 ∷ []) $ by ! (exits (Ok room) (live 0 (vcons made vnil))))
      (λ e.
      let Refusal : RattleType = Struct (Declared.shape AE.the_type) in
      let none : Val = live 1 (vcons (vstruct vnil) vnil) in
      lands_as ! e refl (Answer-typed false 0 0) $ first ! $ switches_on ! (get_tag ! (vrt ! refl (fld ! refl (stop !))) (whole !)) $ exec ! C Λ En (arm_body 1 both) Then $
      sets ! (of_opd ! (get_in ! (vrt ! refl (fld ! refl (stop !))) (in_variant ! 1 0 refl refl (whole !)))) refl (tt, tt) $
      sets_last ! (agg ! (and_then ! (lit ! tt) (and_then ! (get ! refl) (no_more !)))) refl (tt, (record { fits = lit< tt }, (tt, tt))) $
      exec ! C Λ En (after 2 (function E).body) (at_ret En Post) $ sets ! (of_opd ! (get ! refl)) refl (tt, (record { fits = lit< tt }, (tt, tt))) $
      owned ! Refusal (Is Refusal) (Struct-Makes 𝓛 (Declared.shape AE.the_type) tt) tt (vstruct vnil ∷ []) (tt, (refl, tt)) $
      use1 𝓛 (‵ ((Out E).own_val (Err (record {})) (none ∷ []))) (err_of 𝓛 (Rm E) AE.the_row (record {}) (vstruct vnil)) $
      returns ! (look_at ! 0 refl) $ free_all ! refl $ keep ! (0 ∷ 1 ∷ []) $ by ! (exits (Err (record {})) none))))

  entry : ent 𝓤 (on_entry 𝓛 (ended E).signature (κ, tt) (q, tt) (self, tt) (us0, tt)) (WpFn 𝓤 H C Λ (function E) (us0 ++ []) Post)
  entry =
      qed 𝓛 ((‵ (flft κ q) ⊛ ‵ ftrue) ∷ ‵ (owns (ShrRef (named 0) κ Global.the_row ∷ []) (self, tt) (us0, tt)) ∷ []) ∵ split ! $ move ! (2 ∷ []) $ fsplit ! $ fsplit ! $ feq_l ! (λ e0.
      keep ! (0 ∷ 2 ∷ []) $ by ! (subst (λ (ws : List Val). ent 𝓤 (⋆ 𝓛 Had) (WpFn 𝓤 H C Λ (function E) (ws ++ []) Post)) (sym e0) walk))

meets : (E : One) {M : Type 1} {𝓤 : Ura M} (𝓛 : Logic 𝓤) (at_mem : Memory → SProp 𝓤) (run : Routine → Fun 𝓤) (𝓣 : Tables 𝓤 𝓛.H) → Triple 𝓤 (𝓣.C callee_symbol.name) (Takes 𝓛 at_mem run)
    → Meets 𝓛 (ended E).signature (WpFn 𝓤 𝓛.H 𝓣.C 𝓣.Λ (function E)) (closing 𝓛 (ended E) (spec E 𝓛))
meets E {𝓤 = 𝓤} 𝓛 at_mem run 𝓣 callee =
    walk_Meets 𝓛 (ended E) (stayed E) (Goes-dropped 𝓛 1 (RefOf (0 ∷ []) tt (plain (λ _. Global.the_row)) (λ _. tt)) yes (λ κs x f. refl), tt) (spec E 𝓛) (WpFn 𝓤 𝓛.H 𝓣.C 𝓣.Λ (function E)) (WpFn-mono 𝓤 𝓛.H 𝓛.laws 𝓣 (function E))
    (λ z. via 𝓤 _ (fst∗ 𝓤 _ (emp 𝓤)) (entry E 𝓛 at_mem run 𝓣.C 𝓣.Λ (fm_of 𝓤 𝓛.H 𝓛.laws 𝓣) callee z.0.0.0 z.0.1.0 z.0.3.0.ref_ptr.0 z.0.3.0.ref_ptr.1 z.0.3.0.now z.0.4.0))

pub allocate_spec : {M : Type 1} → stated.statement M
unfolding tables_of
allocate_spec 𝓤 𝓛 𝓜 𝓡 wired X L y =
    let E : One = record { row = X; laws = L } in
    let 𝓣 : Tables 𝓤 𝓛.H = tables_of 𝓤 𝓛.H 𝓜 (tables 𝓤 𝓛.H 𝓜 𝓡 𝓡.env) in
    let k = #self (args E) in
    let callee = cited 𝓤 𝓛.H _ 𝓜 𝓡 𝓡.env callee_symbol.name (𝓡.env callee_symbol.name) refl (callee_met.met 𝓤 𝓛 𝓜 𝓡 (code.calls-std_heap::GlobalAllocator::allocate 𝓡.env wired)) in
    spared 𝓛 (ended E).signature (𝓡.run (𝓡.env k)) (run_framed 𝓤 𝓛.H 𝓜 𝓡 (𝓡.env k)) 1 (X.lives, tt) (closing 𝓛 (ended E) (spec E 𝓛))
    (entered 𝓤 𝓛.H (triple_of 𝓛 (ended E).signature (closing 𝓛 (ended E) (spec E 𝓛))) 𝓣.C 𝓣.Λ k (function E) (code.unfolded 𝓤 𝓛.H 𝓜 𝓡 wired (X, tt)) (meets E 𝓛 𝓜.mem 𝓡.returns 𝓣 callee))
    ((y.0.0, y.0.1, tt, y.0.3, y.0.4), y.1)
