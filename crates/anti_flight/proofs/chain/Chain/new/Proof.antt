-- `new` links the two ends, and leaves their values unwritten. Assumes `Logic`.
use mathlib.Core.Path.{◌≡◌, refl, sym, ap, subst}
use mathlib.Core.Bool.{false}
use Prim.Native.Nat.{◌+◌}
use mathlib.Core.List.{List, [], ◌∷◌, ◌++◌}
use seplogic.Ra.Ura.{Ura}
use mir.Syntax.{Fn, ty_ptr}
use mir.MapTy.{inst_fn}
use mir.Val.{Val}
use base.Logic.{SProp, ent, emp, via, fst∗}
use base.Fml.{ftrue}
use prog.Model.{Model}
use prog.Wp.{Env, Calls, Loops, WpFn, Tables}
use types.Logic.{Logic}
use contract.Monad.{fact}
use contract.Running.{tables, tables_of}
use sound.WpLaws.{WpFn-mono}
use types.Kit.{Item, ⋆, ‵, at_ret, ◌$◌, ◌∵◌, !, qed, by, move, keep, use0, use3, rewrite, fsplit, fjoin, fjoin3, suffices, frame, done}
use types.Part.{whole, sub, agg}
use types.Run.{init, stop, fld, lit, of_opd, and_then, no_more, assigns, assigns_last, first, blocks, exec, returns, enter}
use types.ByLocal.{alloc_all, pass_all, free_all, look_at, get, get_in, through, sets, is, env}
use denote.Exit.{no}
use denote.RattleType.{RattleType, owns}
use denote.Param.{layout}
use denote.RawPtr.{Ptr, block_ptr, null_ptr, ptr_val, room_for, in_a_block}
use denote.Signature.{plain}
use denote.Steps.{nothing}
use denote.Struct.Struct.{as_fields}
use denote.Struct.Tuple.{Tuple}
use denote.Triple.Carry.{spared}
use denote.Triple.Clauses.{Clauses, Ended, closing}
use denote.Triple.Entry.{on_entry}
use denote.Triple.Spec.{Meets, triple_of}
use denote.Triple.Table.{entered, run_framed}
use denote.Triple.Walked.{says, Stays, stay_dropped, walk_of, ends_at, walk_Meets}
use Rattle.std.proofs.alloc.Calls.{Goes-blank}
use Rattle.std.proofs.VecSteps.Shapes.{after}
use Rattle.std.proofs.RcSteps.{Ptr-Good, word, word-Good}
use Rattle.anti_flight.specs.inner.Linked.{same_ptr}
use Rattle.anti_flight.specs.inner.Ownership.{prev_of, next_of, link_room, edge, room_owns}
use Rattle.anti_flight.proofs.Apart.{apart_two}
use Rattle.anti_flight.proofs.Memory.{One, args, RT, Ch, Pl, Rm, Mark, mark, mark_made, word_had, word_made, three_val, three_of, stale, knows, edge_in, no_room, rooms_differ}
use Rattle.anti_flight.specs.contracts.chain.Chain.new.Key.{name as #self}
use Rattle.anti_flight.proofs.chain.Chain.new.Statement as stated
use Rattle.anti_flight.proofs.chain.Chain.new.Code as code

module _ (E : One) where
  abbrev function : Fn
  function = inst_fn (args E) code.function

  abbrev Out : RattleType
  Out = Tuple (Ch E ∷ Pl ∷ Pl ∷ [])

  abbrev ended : Ended
  ended = record { signature = record { lifetimes = 0; outlives = []; params = plain (λ _. Rm E) ∷ plain (λ _. Rm E) ∷ []; result = plain (λ _. Out) }; kept = (no, (no, tt)) }

  abbrev stayed : Stays ended.signature.params ended.kept
  stayed = (stay_dropped (plain (λ _. Rm E)) no, (stay_dropped (plain (λ _. Rm E)) no, tt))

  abbrev Gives0 : (Rm E).Denot → (Rm E).Denot → Out.Denot → Type 0
  Gives0 head tail r = (r.0.head ≡ r.1.ptr) × (r.0.tail ≡ r.2.ptr) × (r.0.nodes ≡ [])

  abbrev spec : {M : Type 1} {𝓤 : Ura M} (𝓛 : Logic 𝓤) → Clauses 𝓤 ended
  spec {𝓤 = 𝓤} 𝓛 κs a = record { ghost = Unit {0}; requires = λ _. emp 𝓤; ensures = λ _ r w. fact 𝓤 (Gives0 a.0 a.1.0 r) }

module _ (E : One) {M : Type 1} {𝓤 : Ura M} (𝓛 : Logic 𝓤) (𝓜 : Model 𝓤 𝓛.H) (C : Calls 𝓤 𝓛.H) (Λ : Loops 𝓤 𝓛.H) (head : (Rm E).Denot) (tail : (Rm E).Denot) (us0 us1 : List Val) where
  open 𝓛 use {H, A}

  abbrev bound : (walk_of 𝓛 (ended E) (stayed E) (spec E 𝓛)).Ghost
  bound = ((tt, tt, tt, (head, (tail, tt)), (us0, (us1, tt))), tt)

  abbrev Post : Val → SProp 𝓤
  Post = (walk_of 𝓛 (ended E) (stayed E) (spec E 𝓛)).post bound

  exits : (r : (Out E).Denot) (v : Val) → Gives0 E head tail r → ent 𝓤 (⋆ 𝓛 (‵ ((Out E).own_val r (v ∷ [])) ∷ [])) (Post v)
  exits r v g0 =
      qed 𝓛 (‵ ((Out E).own_val r (v ∷ [])) ∷ []) ∵
      suffices ! _ (ends_at 𝓛 (ended E) (stayed E) (spec E 𝓛) bound v r (tt, (tt, tt)) (tt, (tt, tt))) $ says ! g0 $
      nothing ! $ frame ! $ nothing ! $ nothing ! $ fjoin ! $ nothing ! $ fjoin ! $ done !

  abbrev Had : List (Item 𝓤)
  Had = ‵ (room_owns (RT E) head.ptr) ∷ ‵ (room_owns (RT E) tail.ptr) ∷ []

  walk : ent 𝓤 (⋆ 𝓛 Had) (WpFn 𝓤 H C Λ (function E) (word head.ptr ∷ word tail.ptr ∷ []) Post)
  walk =
      qed 𝓛 Had ∵ enter ! C Λ (function E) (word head.ptr ∷ word tail.ptr ∷ []) _ $ alloc_all ! (λ l. pass_all ! refl (word-Good [] head.ptr, (word-Good [] tail.ptr, tt)) $
      let En : Env 𝓤 H = env (function E).locals l in
      fsplit ! $ move ! (2 ∷ []) $ fsplit ! $ move ! (2 ∷ 0 ∷ []) $ knows ! (same_ptr head.ptr tail.ptr ≡ false) (rooms_differ 𝓛 𝓜 head.ptr tail.ptr) (λ differ.
      let chain : (Ch E).Denot = record { mark = record {}; head = head.ptr; tail = tail.ptr; nodes = []; apart = apart_two head.ptr tail.ptr differ } in
      let first_end : Pl.Denot = record { ptr = head.ptr } in let last_end : Pl.Denot = record { ptr = tail.ptr } in
      in_a_block ! head.ptr link_room (no_room 𝓛) (λ hb ho eh. fsplit ! $ move ! (2 ∷ []) $ in_a_block ! tail.ptr link_room (no_room 𝓛) (λ tb to et. fsplit ! $
      let h : Ptr = block_ptr hb ho in let t : Ptr = block_ptr tb to in
      let typed = as_fields (layout (Ch E) ∷ layout Pl ∷ layout Pl ∷ []) (mark ∷ word h ∷ word t ∷ []) ((tt, (tt, tt)), (word-Good [] h, (word-Good [] t, tt))) in
      -- [room for tail.prev, tail.next, head.prev and head.next; for the tail's rest; for the head's]
      sets ! (is ! (of_opd ! (get_in ! (fld ! refl (stop !)) (sub ! 0 refl (whole !)))) (ap ptr_val eh)) refl (tt, tt) $ sets ! (is ! (of_opd ! (get_in ! (fld ! refl (stop !)) (sub ! 0 refl (whole !)))) (ap ptr_val et)) refl (tt, tt) $ first ! $ blocks ! $
      assigns ! (of_opd ! (lit ! tt)) (through ! refl (fld ! refl (stop !))) (init ! 2 refl (Ptr-Good null_ptr)) $
      assigns ! (of_opd ! (get ! refl)) (through ! refl (fld ! refl (stop !))) (init ! 3 refl (tt, tt)) $
      assigns ! (of_opd ! (get ! refl)) (through ! refl (fld ! refl (stop !))) (init ! 0 refl (tt, tt)) $
      assigns_last ! (of_opd ! (lit ! tt)) (through ! refl (fld ! refl (stop !))) (init ! 1 refl (Ptr-Good null_ptr)) $
      exec ! C Λ En (after 3 (function E).body) (at_ret En Post) $
      sets ! (of_opd ! (get ! refl)) refl (tt, tt) $ sets ! (agg ! (and_then ! (get ! refl) (no_more !))) refl (word-Good [] h) $
      sets ! (of_opd ! (get ! refl)) refl (tt, tt) $ sets ! (agg ! (and_then ! (get ! refl) (no_more !))) refl (word-Good [] t) $
      sets ! (agg ! (no_more !)) refl (tt, tt) $ sets ! (agg ! (and_then ! (get ! refl) (no_more !))) refl (tt, (tt, tt)) $
      sets ! (agg ! (and_then ! (get ! refl) (and_then ! (get ! refl) (and_then ! (get ! refl) (no_more !))))) refl typed $
      move ! (3 ∷ 0 ∷ []) $ edge_in ! hb ho tb to $ rewrite ! 0 (λ (p : Ptr × Ptr). ‵ (edge p.0 p.1)) (λ i. (sym eh i, sym et i)) refl $ nothing ! $ move ! (1 ∷ 0 ∷ []) $ fjoin ! $
      move ! (1 ∷ []) $ stale ! null_ptr tb (to + 8) $ rewrite ! 0 (λ (p : Ptr). ‵ (room_for ty_ptr (next_of p))) (sym et) refl $ move ! (0 ∷ 3 ∷ []) $ fjoin ! $
      move ! (2 ∷ []) $ stale ! null_ptr hb (ho + 0) $ rewrite ! 0 (λ (p : Ptr). ‵ (room_for ty_ptr (prev_of p))) (sym eh) refl $ move ! (0 ∷ 3 ∷ []) $ fjoin ! $ fjoin ! $
      nothing ! $ move ! (2 ∷ 0 ∷ 1 ∷ []) $ fjoin3 ! $ use0 𝓛 (‵ ((Mark E).own_val (tt, tt) (mark ∷ []))) (mark_made E 𝓛) $ fjoin ! $
      word_made ! tail.ptr $ rewrite ! 0 (λ (p : Ptr). ‵ (Pl.own_val last_end (word p ∷ []))) et refl $ word_made ! head.ptr $ rewrite ! 0 (λ (p : Ptr). ‵ (Pl.own_val first_end (word p ∷ []))) eh refl $ move ! (2 ∷ 0 ∷ 1 ∷ []) $
      use3 𝓛 (‵ ((Out E).own_val (chain, first_end, last_end) (three_val mark (word h) (word t) ∷ []))) (three_of 𝓛 (Ch E) Pl Pl chain first_end last_end mark (word h) (word t)) $
      returns ! (look_at ! 0 refl) $ free_all ! refl $ keep ! (0 ∷ []) $ by ! (exits (chain, first_end, last_end) (three_val mark (word h) (word t)) (refl, refl, refl))))))

  entry : ent 𝓤 (on_entry 𝓛 (ended E).signature tt tt (head, (tail, tt)) (us0, (us1, tt))) (WpFn 𝓤 H C Λ (function E) (us0 ++ (us1 ++ [])) Post)
  entry =
      qed 𝓛 (‵ ftrue ∷ ‵ (owns (Rm E ∷ Rm E ∷ []) (head, (tail, tt)) (us0, (us1, tt))) ∷ []) ∵
      move ! (1 ∷ []) $
      fsplit ! $
      fsplit ! $ word_had ! head.ptr us0 (λ e0.
      move ! (1 ∷ []) $
      fsplit ! $
      fsplit ! $ word_had ! tail.ptr us1 (λ e1.
      keep ! (2 ∷ 0 ∷ []) $
      by ! (subst (λ (ws : List Val × List Val). ent 𝓤 (⋆ 𝓛 Had) (WpFn 𝓤 H C Λ (function E) (ws.0 ++ (ws.1 ++ [])) Post)) (λ j. (sym e0 j, sym e1 j)) (walk))))

meets : (E : One) {M : Type 1} {𝓤 : Ura M} (𝓛 : Logic 𝓤) (𝓜 : Model 𝓤 𝓛.H) (𝓣 : Tables 𝓤 𝓛.H)
    → Meets 𝓛 (ended E).signature (WpFn 𝓤 𝓛.H 𝓣.C 𝓣.Λ (function E)) (closing 𝓛 (ended E) (spec E 𝓛))
meets E {𝓤 = 𝓤} 𝓛 𝓜 𝓣 =
    walk_Meets 𝓛 (ended E) (stayed E) (Goes-blank 𝓛 0 (plain (λ _. Rm E)) no (λ κs x f. tt), (Goes-blank 𝓛 0 (plain (λ _. Rm E)) no (λ κs x f. tt), tt)) (spec E 𝓛) (WpFn 𝓤 𝓛.H 𝓣.C 𝓣.Λ (function E)) (WpFn-mono 𝓤 𝓛.H 𝓛.laws 𝓣 (function E))
    (λ z. via 𝓤 _ (fst∗ 𝓤 _ (emp 𝓤)) (entry E 𝓛 𝓜 𝓣.C 𝓣.Λ z.0.3.0 z.0.3.1.0 z.0.4.0 z.0.4.1.0))

pub new_spec : {M : Type 1} → stated.statement M
unfolding tables_of
new_spec 𝓤 𝓛 𝓜 𝓡 wired X L y =
    let E : One = record { row = X; laws = L } in
    let 𝓣 : Tables 𝓤 𝓛.H = tables_of 𝓤 𝓛.H 𝓜 (tables 𝓤 𝓛.H 𝓜 𝓡 𝓡.env) in
    let k = #self (args E) in
    spared 𝓛 (ended E).signature (𝓡.run (𝓡.env k)) (run_framed 𝓤 𝓛.H 𝓜 𝓡 (𝓡.env k)) 1 (X.lives, tt) (closing 𝓛 (ended E) (spec E 𝓛))
    (entered 𝓤 𝓛.H (triple_of 𝓛 (ended E).signature (closing 𝓛 (ended E) (spec E 𝓛))) 𝓣.C 𝓣.Λ k (function E) (code.unfolded 𝓤 𝓛.H 𝓜 𝓡 wired (X, tt)) (meets E 𝓛 𝓜 𝓣))
    ((y.0.0, y.0.1, tt, y.0.3, y.0.4), y.1)
