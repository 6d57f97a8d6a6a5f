-- What names a handler is no barrier: an application without one has the same names, and names the same handlers.
use Rattle.std.proofs.Common.{◌≡◌, ℕ, zero, suc, ◌+◌, ◌==◌, not, Bool, true, false, cond, ◌&&◌, ◌||◌, List, [], ◌∷◌, ◌++◌, slice_get, refl, sym, ap, ap₂, ◌∙◌, bytes_eq}
use Rattle.std.proofs.Math.Path.{fun_ext}
use Rattle.std.proofs.lemmas.List.Folds.{list_any-append}
use Rattle.std.specs.List.{list_any, position_or_len}
use Rattle.std.specs.Option.{option_map_or}
use Rattle.anti_ids.specs.List.{plain}
use Rattle.anti_lang.specs.Bodies.{block_of, body_of}
use Rattle.anti_lang.specs.Blocks.{step_lines, lines_of}
use Rattle.anti_lang.specs.Lines.{Line, Does, OpenRepeat, OpenIf, Close}
use Rattle.anti_lang.specs.Program.{Step, Block, End, Then, Barrier, Call, Send, Repeat, IfAbsent}
use Rattle.anti_lang.proofs.PlainLemmas.{block_again}
use Rattle.anti_app.specs.declared.app.App.{App}
use Rattle.anti_app.specs.declared.app.HandlerDef.{HandlerDef}
use Rattle.anti_app.specs.declared.app.ServiceDef.{ServiceDef}
use Rattle.anti_app.specs.Places.{service_place}
use Rattle.anti_place.specs.Paths.{height}
use Rattle.anti_place.specs.Placements.{is_handler, calls_it, sends_it, some_line, is_called, is_named}
use Rattle.anti_place.specs.Without.{step_without, block_without, handlers_without, services_without, without}

-- ---- lines

-- a test that no barrier passes is passed by the same lines
module _ (test : Line → Bool) (none : test (Does Barrier) ≡ false) (line : ℕ) where
  abbrev any : List Line → Bool
  any lines = list_any test lines

  any_parts : (xs ys : List Line) → any (xs ++ ys) ≡ (any xs || any ys)
  any_parts xs ys = list_any-append test xs ys

  any_block : (opening : Line) (xs ys : List Line) → any xs ≡ any ys → any (opening ∷ (xs ++ Close ∷ [])) ≡ any (opening ∷ (ys ++ Close ∷ []))
  any_block opening xs ys same =
      ap (λ (b : Bool). test opening || b) (any_parts xs (Close ∷ []) ∙ ap (λ (b : Bool). b || any (Close ∷ [])) same ∙ sym (any_parts ys (Close ∷ [])))

  barrier_any : (n : ℕ) (rest : Block) → any (lines_of (block_without line (n + 1) rest)) ≡ any (lines_of rest)
      → any (lines_of (block_without line n (Then Barrier rest))) ≡ any (lines_of (Then Barrier rest))
  barrier_any n rest same = go (n == line)
    where
      others : Block
      others = block_without line (n + 1) rest

      go : (taken : Bool) → any (lines_of (cond taken others (Then Barrier others))) ≡ any (lines_of (Then Barrier rest))
      go true = same ∙ sym (ap (λ (b : Bool). b || any (lines_of rest)) none)
      go false = ap (λ (b : Bool). test (Does Barrier) || b) same

  steps_any : (n : ℕ) (first : Step) (rest : Block) → any (step_lines (step_without line n first)) ≡ any (step_lines first)
      → any (lines_of (block_without line (n + height first) rest)) ≡ any (lines_of rest)
      → any (step_lines (step_without line n first) ++ lines_of (block_without line (n + height first) rest)) ≡ any (step_lines first ++ lines_of rest)
  steps_any n first rest here further =
      any_parts (step_lines (step_without line n first)) (lines_of (block_without line (n + height first) rest))
      ∙ ap₂ (λ (a b : Bool). a || b) here further ∙ sym (any_parts (step_lines first) (lines_of rest))

  mutual
    step_any : (n : ℕ) (statement : Step) → any (step_lines (step_without line n statement)) ≡ any (step_lines statement)
    step_any n (Repeat count block) = any_block (OpenRepeat count) (lines_of (block_without line (n + 1) block)) (lines_of block) (block_any (n + 1) block)
    step_any n (IfAbsent x block) = any_block (OpenIf x) (lines_of (block_without line (n + 1) block)) (lines_of block) (block_any (n + 1) block)
    step_any n statement = refl

    block_any : (n : ℕ) (block : Block) → any (lines_of (block_without line n block)) ≡ any (lines_of block)
    block_any n End = refl
    block_any n (Then Barrier rest) = barrier_any n rest (block_any (n + 1) rest)
    block_any n (Then first rest) = steps_any n first rest (step_any n first) (block_any (n + height first) rest)

  handlers_any : (handler n : ℕ) (hs : List HandlerDef)
      → list_any (λ h. any (lines_of (block_of h.body))) (handlers_without handler line n hs) ≡ list_any (λ h. any (lines_of (block_of h.body))) hs
  handlers_any handler n [] = refl
  handlers_any handler n (h ∷ hs) = ap₂ (λ (a b : Bool). a || b) (go (n == handler)) (handlers_any handler (n + 1) hs)
    where
      go : (its : Bool) → any (lines_of (block_of (cond its (record h { body = body_of (block_without line 1 (block_of h.body)) }) h).body)) ≡ any (lines_of (block_of h.body))
      go true = ap (λ (block : Block). any (lines_of block)) (block_again (block_without line 1 (block_of h.body))) ∙ block_any 1 (block_of h.body)
      go false = refl

  services_any : (service handler n : ℕ) (ss : List ServiceDef)
      → list_any (λ s. list_any (λ h. any (lines_of (block_of h.body))) s.handlers.items) (services_without service handler line n ss)
      ≡ list_any (λ s. list_any (λ h. any (lines_of (block_of h.body))) s.handlers.items) ss
  services_any service handler n [] = refl
  services_any service handler n (s ∷ ss) = ap₂ (λ (a b : Bool). a || b) (go (n == service)) (services_any service handler (n + 1) ss)
    where
      go : (its : Bool)
          → list_any (λ h. any (lines_of (block_of h.body))) (cond its (record s { handlers = plain (handlers_without handler line 0 s.handlers.items) }) s).handlers.items
          ≡ list_any (λ h. any (lines_of (block_of h.body))) s.handlers.items
      go true = handlers_any handler 0 s.handlers.items
      go false = refl

-- ---- names

module _ (service handler line : ℕ) where
  handler_found : (name : List ℕ) (n : ℕ) (hs : List HandlerDef)
      → position_or_len (λ h. bytes_eq h.name name) (handlers_without handler line n hs) ≡ position_or_len (λ h. bytes_eq h.name name) hs
  handler_found name n [] = refl
  handler_found name n (h ∷ hs) = go (n == handler) ∙ ap (λ (place : ℕ). cond (not (bytes_eq h.name name)) (1 + place) 0) (handler_found name (n + 1) hs)
    where
      go : (its : Bool)
          → cond (not (bytes_eq (cond its (record h { body = body_of (block_without line 1 (block_of h.body)) }) h).name name))
          (1 + position_or_len (λ h. bytes_eq h.name name) (handlers_without handler line (n + 1) hs)) 0
          ≡ cond (not (bytes_eq h.name name)) (1 + position_or_len (λ h. bytes_eq h.name name) (handlers_without handler line (n + 1) hs)) 0
      go true = refl
      go false = refl

  service_found : (name : List ℕ) (n : ℕ) (ss : List ServiceDef) → service_place (services_without service handler line n ss) name ≡ service_place ss name
  service_found name n [] = refl
  service_found name n (s ∷ ss) = go (n == service) ∙ ap (λ (place : ℕ). cond (not (bytes_eq s.name name)) (1 + place) 0) (service_found name (n + 1) ss)
    where
      go : (its : Bool)
          → cond (not (bytes_eq (cond its (record s { handlers = plain (handlers_without handler line 0 s.handlers.items) }) s).name name))
          (1 + service_place (services_without service handler line (n + 1) ss) name) 0
          ≡ cond (not (bytes_eq s.name name)) (1 + service_place (services_without service handler line (n + 1) ss) name) 0
      go true = refl
      go false = refl

  abbrev its_handler : List ℕ → ServiceDef → ℕ
  its_handler name s = position_or_len (λ h. bytes_eq h.name name) s.handlers.items

  handler_there : (name : List ℕ) (n : ℕ) (ss : List ServiceDef) (k : ℕ)
      → option_map_or (its_handler name) (slice_get (services_without service handler line n ss) k) 0 ≡ option_map_or (its_handler name) (slice_get ss k) 0
  handler_there name n [] k = refl
  handler_there name n (s ∷ ss) zero = go (n == service)
    where
      go : (its : Bool) → its_handler name (cond its (record s { handlers = plain (handlers_without handler line 0 s.handlers.items) }) s) ≡ its_handler name s
      go true = handler_found name 0 s.handlers.items
      go false = refl
  handler_there name n (s ∷ ss) (suc k) = handler_there name (n + 1) ss k

  module _ (app : App) where
    abbrev other : App
    other = without service handler line app

    handler_same : (s h : ℕ) (service_name name : List ℕ) → is_handler other s h service_name name ≡ is_handler app s h service_name name
    handler_same s h service_name name =
        ap₂ (λ (a b : ℕ). a == s && b == h) (service_found service_name 0 app.services.items) (handler_there name 0 app.services.items s)

    calls_same : (s h : ℕ) → calls_it other s h ≡ calls_it app s h
    calls_same s h = fun_ext each
      where
        does : (statement : Step) → calls_it other s h (Does statement) ≡ calls_it app s h (Does statement)
        does (Call service_name name value x) = handler_same s h service_name name
        does statement = refl

        each : (l : Line) → calls_it other s h l ≡ calls_it app s h l
        each (Does statement) = does statement
        each (OpenRepeat count) = refl
        each (OpenIf x) = refl
        each Close = refl

    sends_same : (s h : ℕ) → sends_it other s h ≡ sends_it app s h
    sends_same s h = fun_ext each
      where
        does : (statement : Step) → sends_it other s h (Does statement) ≡ sends_it app s h (Does statement)
        does (Send service_name name value) = handler_same s h service_name name
        does statement = refl

        each : (l : Line) → sends_it other s h l ≡ sends_it app s h l
        each (Does statement) = does statement
        each (OpenRepeat count) = refl
        each (OpenIf x) = refl
        each Close = refl

    -- The same handlers are called, ..
    pub called_same : (s h : ℕ) → is_called other s h ≡ is_called app s h
    called_same s h =
        ap (λ (test : Line → Bool). some_line test other) (calls_same s h) ∙ services_any (calls_it app s h) refl line service handler 0 app.services.items

    -- .. and named
    pub named_same : (s h : ℕ) → is_named other s h ≡ is_named app s h
    named_same s h =
        let sent : some_line (sends_it other s h) other ≡ some_line (sends_it app s h) app =
        ap (λ (test : Line → Bool). some_line test other) (sends_same s h) ∙ services_any (sends_it app s h) refl line service handler 0 app.services.items in
        ap₂ (λ (a b : Bool). a || (b || list_any (λ sub. sub.service == s && sub.handler == h) app.subs.items)) (called_same s h) sent
