use Rattle.std.proofs.Common.{◌≡◌, List, map, drop, length}
use Rattle.anti_lang.specs.Lines.{Line}
use Rattle.anti_lang.proofs.ReadLemmas.{ReadTo}
use Rattle.anti_lang.proofs.line_reader.read_lines.Given as goal

abbrev pub invariant-loop-i : goal.invariant-loop-i
invariant-loop-i l = record {
  read : (front : List Line) × ReadTo l.found (map (λ line. line.items) l.lines) (map (λ line. line.items) (drop l.i l.lines)) l.i front;
  count : length l.found.items ≡ l.i;
}
