-- `into_ends` gives up the one edge of an empty chain, and its ends are room again. Assumes `Logic`.
use mathlib.Core.Path.{◌≡◌, refl, sym, subst}
use Prim.Native.Nat.{◌+◌}
use mathlib.Core.List.{List, [], ◌∷◌, ◌++◌}
use seplogic.Ra.Ura.{Ura}
use mir.Syntax.{Fn, ty_ptr}
use mir.MapTy.{inst_fn}
use mir.Val.{Val}
use base.Logic.{SProp, ent, emp}
use base.Fml.{ftrue}
use prog.Wp.{Env, Calls, Loops, WpFn, Tables}
use types.Logic.{Logic}
use contract.Monad.{fact}
use contract.Running.{tables, tables_of}
use sound.WpLaws.{WpFn-mono}
use types.Kit.{Item, ⋆, ‵, ◌$◌, ◌∵◌, !, qed, by, move, keep, use2, join, rewrite, fsplit, fsplit3, fjoin, suffices, done}
use types.Part.{whole, sub, agg}
use types.Run.{stop, fld, of_opd, and_then, no_more, returns, enter}
use types.ByLocal.{alloc_all, pass_all, free_all, look_at, get, get_in, sets, env}
use denote.Exit.{no}
use denote.RattleType.{owns}
use denote.Param.{layout}
use denote.RawPtr.{Ptr, block_ptr, in_a_block}
use denote.Signature.{plain}
use denote.Steps.{nothing}
use denote.Struct.Tuple.{Tuple}
use denote.Triple.Carry.{spared}
use denote.Triple.Clauses.{Clauses, Ended, closing}
use denote.Triple.Entry.{on_entry}
use denote.Triple.Spec.{Meets, triple_of}
use denote.Triple.Table.{entered, run_framed}
use denote.Triple.Walked.{needs, Stays, stay_dropped, walk_of, ends_at, Goes-dropped, walk_Meets}
use Rattle.std.proofs.alloc.Calls.{Goes-blank}
use Rattle.std.proofs.RcSteps.{Ptr-Good, word, word-Good}
use Rattle.anti_flight.specs.inner.Ownership.{prev_of, next_of, edge, chain_owns}
use Rattle.anti_flight.proofs.Memory.{One, args, RT, Node, Ch, Pl, Rm, mark, mark_had, word_had, word_made, stale, edge_out, no_source, no_target, pair_val, pair_Typed, pair_of}
use denote.RawPtr.{room_for}
use Rattle.anti_flight.specs.contracts.chain.Chain.into_ends.Key.{name as #self}
use Rattle.anti_flight.proofs.chain.Chain.into_ends.Statement as stated
use Rattle.anti_flight.proofs.chain.Chain.into_ends.Code as code

module _ (E : One) where
  abbrev function : Fn
  function = inst_fn (args E) code.function

  abbrev ended : Ended
  ended = record { signature = record { lifetimes = 0; outlives = []; params = plain (λ _. Ch E) ∷ plain (λ _. Pl) ∷ plain (λ _. Pl) ∷ []; result = plain (λ _. Tuple (Rm E ∷ Rm E ∷ [])) }; kept = (no, (no, (no, tt))) }

  abbrev stayed : Stays ended.signature.params ended.kept
  stayed = (stay_dropped (plain (λ _. Ch E)) no, (stay_dropped (plain (λ _. Pl)) no, (stay_dropped (plain (λ _. Pl)) no, tt)))

  abbrev Asks : (Ch E).Denot → Pl.Denot → Pl.Denot → Type 0
  Asks chain head tail = (head.ptr ≡ chain.head) × (tail.ptr ≡ chain.tail) × (chain.nodes ≡ [])

  abbrev spec : {M : Type 1} {𝓤 : Ura M} (𝓛 : Logic 𝓤) → Clauses 𝓤 ended
  spec {𝓤 = 𝓤} 𝓛 κs a = record { ghost = Unit {0}; requires = λ _. fact 𝓤 (Asks a.0 a.1.0 a.1.1.0); ensures = λ _ r w. emp 𝓤 }

module _ (E : One) {M : Type 1} {𝓤 : Ura M} (𝓛 : Logic 𝓤) (C : Calls 𝓤 𝓛.H) (Λ : Loops 𝓤 𝓛.H) (chain : (Ch E).Denot) (head : Pl.Denot) (tail : Pl.Denot) (us0 us1 us2 : List Val) where
  open 𝓛 use {H, A}

  abbrev bound : (walk_of 𝓛 (ended E) (stayed E) (spec E 𝓛)).Ghost
  bound = ((tt, tt, tt, (chain, (head, (tail, tt))), (us0, (us1, (us2, tt)))), tt)

  abbrev Post : Val → SProp 𝓤
  Post = (walk_of 𝓛 (ended E) (stayed E) (spec E 𝓛)).post bound

  exits : (r : (Tuple (Rm E ∷ Rm E ∷ [])).Denot) (v : Val) → ent 𝓤 (⋆ 𝓛 (‵ ((Tuple (Rm E ∷ Rm E ∷ [])).own_val r (v ∷ [])) ∷ [])) (Post v)
  exits r v =
      qed 𝓛 (‵ ((Tuple (Rm E ∷ Rm E ∷ [])).own_val r (v ∷ [])) ∷ []) ∵
      suffices ! _ (ends_at 𝓛 (ended E) (stayed E) (spec E 𝓛) bound v r (tt, (tt, (tt, tt))) (tt, (tt, (tt, tt)))) $ nothing ! $ nothing ! $ fjoin ! $ nothing ! $ fjoin ! $ nothing ! $ fjoin ! $ join ! $ nothing ! $ join ! $ nothing ! $ move ! (1 ∷ 0 ∷ []) $ done !

  abbrev Had : List (Item 𝓤)
  Had = ‵ (chain_owns (RT E) chain.head chain.nodes chain.tail) ∷ []

  walk : Asks E chain head tail → ent 𝓤 (⋆ 𝓛 Had) (WpFn 𝓤 H C Λ (function E) (mark ∷ word head.ptr ∷ word tail.ptr ∷ []) Post)
  walk asked =
      let one : (Rm E).Denot = record { ptr = head.ptr } in let two : (Rm E).Denot = record { ptr = tail.ptr } in
      qed 𝓛 Had ∵ enter ! C Λ (function E) (mark ∷ word head.ptr ∷ word tail.ptr ∷ []) _ $ alloc_all ! (λ l. pass_all ! refl ((tt, (tt, tt)), (word-Good [] head.ptr, (word-Good [] tail.ptr, tt))) $
      let En : Env 𝓤 H = env (function E).locals l in
      rewrite ! 0 (λ (p : Ptr × List (Node E) × Ptr). ‵ (chain_owns (RT E) p.0 p.1 p.2)) (λ i. (sym asked.0 i, asked.2 i, sym asked.1 i)) refl $ fsplit3 ! $ fsplit ! $
      in_a_block ! head.ptr (λ p. edge p tail.ptr) (no_source 𝓛 tail.ptr) (λ hb ho eh. in_a_block ! tail.ptr (edge (block_ptr hb ho)) (no_target 𝓛 (block_ptr hb ho)) (λ tb to et.
      edge_out ! hb ho tb to $ stale ! (block_ptr tb to) hb (ho + 8) $ rewrite ! 0 (λ (p : Ptr). ‵ (room_for ty_ptr (next_of p))) (sym eh) refl $
      move ! (1 ∷ []) $ stale ! (block_ptr hb ho) tb (to + 0) $ rewrite ! 0 (λ (p : Ptr). ‵ (room_for ty_ptr (prev_of p))) (sym et) refl $
      move ! (4 ∷ []) $ fsplit ! $ fsplit ! $ move ! (2 ∷ []) $ fsplit ! $
      -- [room for tail.next; the tail's rest; head.prev; the head's rest; tail.prev; head.next]
      move ! (4 ∷ 0 ∷ []) $ fjoin ! $ fjoin ! $ word_made ! tail.ptr $ fjoin ! $ move ! (1 ∷ 3 ∷ []) $ fjoin ! $ move ! (0 ∷ 2 ∷ []) $ fjoin ! $ word_made ! head.ptr $ fjoin ! $
      use2 𝓛 (‵ ((Tuple (Rm E ∷ Rm E ∷ [])).own_val (one, two) (pair_val (word head.ptr) (word tail.ptr) ∷ []))) (pair_of 𝓛 (Rm E) (Rm E) one two (word head.ptr) (word tail.ptr)) $
      sets ! (of_opd ! (get_in ! (fld ! refl (stop !)) (sub ! 0 refl (whole !)))) refl (Ptr-Good head.ptr) $ sets ! (of_opd ! (get_in ! (fld ! refl (stop !)) (sub ! 0 refl (whole !)))) refl (Ptr-Good tail.ptr) $
      sets ! (agg ! (and_then ! (get ! refl) (no_more !))) refl (word-Good [] head.ptr) $ sets ! (agg ! (and_then ! (get ! refl) (no_more !))) refl (word-Good [] tail.ptr) $
      sets ! (agg ! (and_then ! (get ! refl) (and_then ! (get ! refl) (no_more !)))) refl (pair_Typed (layout (Rm E)) (layout (Rm E)) (word head.ptr) (word tail.ptr) (word-Good [] head.ptr) (word-Good [] tail.ptr)) $
      returns ! (look_at ! 0 refl) $ free_all ! refl $ keep ! (0 ∷ []) $ by ! (exits (one, two) (pair_val (word head.ptr) (word tail.ptr))))))

  entry : Asks E chain head tail → ent 𝓤 (on_entry 𝓛 (ended E).signature tt tt (chain, (head, (tail, tt))) (us0, (us1, (us2, tt)))) (WpFn 𝓤 H C Λ (function E) (us0 ++ (us1 ++ (us2 ++ []))) Post)
  entry asked =
      qed 𝓛 (‵ ftrue ∷ ‵ (owns (Ch E ∷ Pl ∷ Pl ∷ []) (chain, (head, (tail, tt))) (us0, (us1, (us2, tt)))) ∷ []) ∵
      move ! (1 ∷ []) $
      fsplit ! $
      fsplit ! $ mark_had ! E us0 (λ e0.
      move ! (1 ∷ []) $
      fsplit ! $
      word_had ! head.ptr us1 (λ e1.
      fsplit ! $
      word_had ! tail.ptr us2 (λ e2.
      keep ! (1 ∷ []) $
      by ! (subst (λ (ws : List Val × List Val × List Val). ent 𝓤 (⋆ 𝓛 Had) (WpFn 𝓤 H C Λ (function E) (ws.0 ++ (ws.1 ++ (ws.2 ++ []))) Post)) (λ j. (sym e0 j, sym e1 j, sym e2 j)) (walk asked)))))

meets : (E : One) {M : Type 1} {𝓤 : Ura M} (𝓛 : Logic 𝓤) (𝓣 : Tables 𝓤 𝓛.H)
    → Meets 𝓛 (ended E).signature (WpFn 𝓤 𝓛.H 𝓣.C 𝓣.Λ (function E)) (closing 𝓛 (ended E) (spec E 𝓛))
meets E {𝓤 = 𝓤} 𝓛 𝓣 =
    walk_Meets 𝓛 (ended E) (stayed E) (Goes-blank 𝓛 0 (plain (λ _. Ch E)) no (λ κs x f. tt), (Goes-dropped 𝓛 0 (plain (λ _. Pl)) no (λ κs x f. refl), (Goes-dropped 𝓛 0 (plain (λ _. Pl)) no (λ κs x f. refl), tt))) (spec E 𝓛) (WpFn 𝓤 𝓛.H 𝓣.C 𝓣.Λ (function E)) (WpFn-mono 𝓤 𝓛.H 𝓛.laws 𝓣 (function E))
    (λ z. needs 𝓤 (Asks E z.0.3.0 z.0.3.1.0 z.0.3.1.1.0) _ (entry E 𝓛 𝓣.C 𝓣.Λ z.0.3.0 z.0.3.1.0 z.0.3.1.1.0 z.0.4.0 z.0.4.1.0 z.0.4.1.1.0))

pub into_ends_spec : {M : Type 1} → stated.statement M
unfolding tables_of
into_ends_spec 𝓤 𝓛 𝓜 𝓡 wired X L y =
    let E : One = record { row = X; laws = L } in
    let 𝓣 : Tables 𝓤 𝓛.H = tables_of 𝓤 𝓛.H 𝓜 (tables 𝓤 𝓛.H 𝓜 𝓡 𝓡.env) in
    let k = #self (args E) in
    spared 𝓛 (ended E).signature (𝓡.run (𝓡.env k)) (run_framed 𝓤 𝓛.H 𝓜 𝓡 (𝓡.env k)) 1 (X.lives, tt) (closing 𝓛 (ended E) (spec E 𝓛))
    (entered 𝓤 𝓛.H (triple_of 𝓛 (ended E).signature (closing 𝓛 (ended E) (spec E 𝓛))) 𝓣.C 𝓣.Λ k (function E) (code.unfolded 𝓤 𝓛.H 𝓜 𝓡 wired (X, tt)) (meets E 𝓛 𝓣))
    ((y.0.0, y.0.1, tt, y.0.3, y.0.4), y.1)
