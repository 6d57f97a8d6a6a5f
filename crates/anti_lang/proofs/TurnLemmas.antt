-- The open blocks as the code has them: those above a line, the outermost first, and how many are open in one whose `end` is looked for.
use Rattle.std.proofs.Common.{◌≡◌, ◌≢◌, ℕ, suc, ◌+◌, ◌-◌, ◌<◌, ◌∙◌, sym, ap, List, [], ◌∷◌, ◌++◌, length, get_or, drop, reverse, arith}
use Rattle.std.proofs.lemmas.List.{reverse-append}
use Rattle.std.specs.Prelude.{Option, Some, None, IfNone, IfSome, Bool}
use Rattle.anti_ids.specs.List.{Listed}
use Rattle.anti_lang.specs.Program.{Step}
use Rattle.anti_lang.specs.Lines.{Line, Does, OpenRepeat, OpenIf, Close}
use Rattle.anti_lang.specs.Stated.{stated, all_stated}
use Rattle.anti_lang.specs.declared.line.Line as code
use Rattle.anti_lang.proofs.BodyLemmas.{ends, ends_repeat, ends_if, ends_close}
use Rattle.anti_lang.proofs.ReadLemmas.{here_first}

-- the open blocks behind an `end`, where the last of them is taken off
pub closed_turns : (old new : Listed ℕ) (last : Option ℕ) → IfNone last (old.items ≡ []) → IfNone last (new ≡ old) → IfSome last (λ count. old.items ≡ new.items ++ count ∷ [])
    → reverse new.items ≡ drop 1 (reverse old.items)
closed_turns old new None none unchanged some =
    ap (λ l. reverse l.items) unchanged ∙ ap reverse none ∙ sym (ap (λ xs. drop 1 (reverse xs)) none)
closed_turns old new (Some count) none unchanged some = sym (ap (λ xs. drop 1 (reverse xs)) some ∙ ap (drop 1) (reverse-append new.items (count ∷ [])))

-- one line is passed
ends_behind : (lines : List code.Line) (i : ℕ) (line : code.Line) (said : Line) (inner next : ℕ) (all : Bool) → i < length lines → line ≡ get_or lines i line
    → stated line ≡ said → ((rest : List Line) → ends next rest ≡ ends inner (said ∷ rest))
    → ends inner (all_stated (drop i lines)) ≡ all → ends next (all_stated (drop (i + 1) lines)) ≡ all
ends_behind lines i line said inner next all within here is step left =
    step (all_stated (drop (i + 1) lines))
    ∙ ap (λ l. ends inner (l ∷ all_stated (drop (i + 1) lines))) (sym is)
    ∙ ap (λ ls. ends inner (all_stated ls)) (sym (here_first lines i line within here))
    ∙ left

pub behind_repeat : (lines : List code.Line) (i : ℕ) (line : code.Line) (count inner next : ℕ) (all : Bool) → i < length lines → line ≡ get_or lines i line
    → stated line ≡ OpenRepeat count → next ≡ inner + 1 → ends inner (all_stated (drop i lines)) ≡ all → ends next (all_stated (drop (i + 1) lines)) ≡ all
behind_repeat lines i line count inner next all within here is more =
    let e : next ≡ suc inner = omega arith in
    ends_behind lines i line (OpenRepeat count) inner next all within here is (λ rest. ap (λ n. ends n rest) e ∙ sym (ends_repeat inner count rest))

pub behind_if : (lines : List code.Line) (i : ℕ) (line : code.Line) (variable : List ℕ) (inner next : ℕ) (all : Bool) → i < length lines → line ≡ get_or lines i line
    → stated line ≡ OpenIf variable → next ≡ inner + 1 → ends inner (all_stated (drop i lines)) ≡ all → ends next (all_stated (drop (i + 1) lines)) ≡ all
behind_if lines i line variable inner next all within here is more =
    let e : next ≡ suc inner = omega arith in
    ends_behind lines i line (OpenIf variable) inner next all within here is (λ rest. ap (λ n. ends n rest) e ∙ sym (ends_if inner variable rest))

pub behind_end : (lines : List code.Line) (i : ℕ) (line : code.Line) (inner next : ℕ) (all : Bool) → i < length lines → line ≡ get_or lines i line
    → stated line ≡ Close → inner ≢ 0 → next ≡ inner - 1 → ends inner (all_stated (drop i lines)) ≡ all → ends next (all_stated (drop (i + 1) lines)) ≡ all
behind_end lines i line inner next all within here is some less =
    ends_behind lines i line Close inner next all within here is (λ rest. ap (λ n. ends n rest) less ∙ ends_close inner rest some)

pub behind_does : (lines : List code.Line) (i : ℕ) (line : code.Line) (statement : Step) (inner next : ℕ) (all : Bool) → i < length lines → line ≡ get_or lines i line
    → stated line ≡ Does statement → next ≡ inner → ends inner (all_stated (drop i lines)) ≡ all → ends next (all_stated (drop (i + 1) lines)) ≡ all
behind_does lines i line statement inner next all within here is same =
    ends_behind lines i line (Does statement) inner next all within here is (λ rest. ap (λ n. ends n rest) same)
