use Rattle.std.proofs.Common.{◌≡◌, ◌++◌, take}
use Rattle.std.specs.List.{flat_map}
use Rattle.anti_text.specs.Sessions.{session_line}
use Rattle.anti_text.proofs.session_text.session_lines.Given as goal

-- the sessions so far are written
abbrev pub invariant-loop-answered : goal.invariant-loop-answered
invariant-loop-answered l = l.out ≡ l.initial.out ++ flat_map (session_line l.texts.app.now) (take l.answered-index l.sessions)
