use Rattle.std.proofs.Common.{◌≡◌, ℕ, max, eqb, List, map, Bor, Option, Some, None, sym, ap, ◌∙◌, subst, arith, rules, tests}
use Rattle.std.specs.Option.{option_map, unwrap_or}
use Rattle.std.specs.List.{common_prefix_len, reduce}
use Rattle.std.proofs.lemmas.Iterator.{YieldsList-from_slice, YieldsList-from_map}
use Rattle.std.proofs.lemmas.Iterator.Consumers.{max_from_yields_List}
use Rattle.std.proofs.lemmas.List.Sums.{common_prefix_len-le}
use Rattle.events.specs.declared.Level.{Level}
use Rattle.events.specs.declared.Level.TheVariants.{Pl1, Pl2, Pl3, Si}
use Rattle.lines.specs.Lines.{word}
use Rattle.line_reader.specs.Parts.{LevelBytes}
use Rattle.line_reader.proofs.Levels.{most, level_bytes_lem}
use Rattle.line_reader.proofs.field.level_bytes.Goals as goal

picked : (o : Option ℕ) (n : ℕ) → option_map (λ x. x) o ≡ Some n → unwrap_or o 0 ≡ n
picked None n e = absurd (grind arith)
picked (Some x) n e = cc

pub returns : goal.returns
returns c =
    let s = c.args.text.now in
    let shared : Bor (List ℕ) → ℕ = λ w. common_prefix_len eqb w.now s in
    let words = c.iter.result.rest.now in
    let most_of = max_from_yields_List c.map.result c.max.result c.max.ensures.ran
    (YieldsList-from_map _ shared (YieldsList-from_slice words cc) c.map.ensures.closure (λ x r q k. search (rules, tests))) in
    let is : c.unwrap_or.result ≡ most s =
    c.unwrap_or.ensures ∙ picked c.max.result (most s) (most_of ∙ ap (λ ws. reduce max (map shared ws)) c.iter.ensures.rest) in
    let le = λ (l : Level). (common_prefix_len-le eqb (word l) s).1 in
    record {
      within = omega (arith, is, le Pl1, le Pl2, le Pl3, le Si);
      whole_or_stop = subst (LevelBytes s) (sym is) (level_bytes_lem s);
    }
