-- What the readers of one field answer, from what their tests found.
use Rattle.std.proofs.Common.{◌≡◌, ℕ, ◌+◌, ◌-◌, ◌≤◌, List, ◌∷◌, ◌++◌, length, take, drop, Ok, Err, sym, ap, ◌∙◌, ap₂, inl, inr, append_assoc, arith}
use Rattle.std.proofs.lemmas.List.{take_at, take-append-drop, length-take-le, length-append}
use Rattle.events.specs.declared.Level.{Level}
use Rattle.events.specs.Numbers.{code}
use Rattle.lines.specs.declared.FormFault.{FormFault}
use Rattle.lines.specs.Lines.{word}
use Rattle.lines.specs.Grammar.{width, Grammar, byte, number, fault_at, parse, level_part, version_part}
use Rattle.lines.proofs.Steps.{number_on_lem, level_on}
use Rattle.line_reader.specs.declared.part.Part.{Part}
use Rattle.line_reader.specs.declared.field.Field.{Field}
use Rattle.line_reader.specs.Fields.{part_of, end_of, number_of}
use Rattle.line_reader.specs.Parts.{Leading, Split, parse_part, Past, Passes, LevelBytes}

-- where a part is cut
module _ (n : ℕ) (part first others : Part) (cut : Split n part first others) where
  cut_whole : part.text.now ≡ first.text.now ++ others.text.now
  cut_whole = sym (take-append-drop n part.text.now) ∙ ap₂ (λ (x y : List ℕ). x ++ y) (sym cut.front) (sym cut.back)

  cut_end : others.column ≡ first.column + length first.text.now
  cut_end = omega (arith, cut.on, cut.place, ap length cut.front, length-take-le n part.text.now cut.within)

-- the field that was cut off, and the byte after it
field_past : {V : Type 0} (n mark : ℕ) (form : (V → Grammar) → Grammar) (v : V) (part : Part) (field : Field) (more rest : Part) → Split n part (part_of field) more
    → ((k : V → Grammar) → parse_part (form k) part ≡ parse_part (byte mark (k v)) more) → Passes mark more (Ok rest) → Past mark form v part field rest
field_past n mark form v part field more rest cut to (is, next, on) =
    record {
      place = cut.place;
      whole = cut_whole n part (part_of field) more cut ∙ ap (λ (t : List ℕ). (part_of field).text.now ++ t) is;
      next = next ∙ ap (λ (x : ℕ). x + 1) (cut_end n part (part_of field) more cut);
      on = λ k. to k ∙ on (k v);
    }

-- a number, and the byte after it, which the part has there or not
module _ (part : Part) (v n mark : ℕ) (field : Field) (more : Part) (lead : Leading part.text.now v n) (cut : Split n part (part_of field) more) where
  number_to : (k : ℕ → Grammar) → parse_part (number mark k) part ≡ parse_part (byte mark (k v)) more
  number_to k =
      let s = part.text.now in
      let c = part.column in
      number_on_lem mark k c s lead.led
      ∙ ap (λ (x : ℕ). parse (byte mark (k x)) (c + width s) (drop (width s) s)) (sym lead.number_is)
      ∙ ap₂ (λ (x : ℕ) (l : List ℕ). parse (byte mark (k v)) x l) (ap (λ (x : ℕ). c + x) (sym lead.width_is) ∙ sym cut.on) (sym (cut.back ∙ ap (λ (j : ℕ). drop j s) lead.width_is))

  pub number_stop : (fault : FormFault) → Passes mark more (Err fault) → (k : ℕ → Grammar) → parse_part (number mark k) part ≡ Err fault
  number_stop fault off k = number_to k ∙ off (k v)

  pub number_past : (rest : Part) → Passes mark more (Ok rest) → Past mark (number mark) v part field rest
  number_past rest on = field_past n mark (number mark) v part field more rest cut number_to on

-- a version's parts: the writer with the point, and the modification
module _ (part : Part) (mark : ℕ) (w m : Field) (between rest : Part) (first : Past 46 (number 46) (number_of w) part w between)
    (second : Past mark (number mark) (number_of m) between m rest) where
  both : List ℕ
  both = (part_of w).text.now ++ 46 ∷ (part_of m).text.now

  both_lem : part.text.now ≡ both ++ mark ∷ rest.text.now
  unfolding both
  both_lem =
      first.whole ∙ ap (λ (l : List ℕ). (part_of w).text.now ++ 46 ∷ l) second.whole
      ∙ sym (append_assoc (part_of w).text.now (46 ∷ (part_of m).text.now) (mark ∷ rest.text.now))

  both_length : part.column + length both ≡ end_of m
  unfolding both
  both_length =
      omega (arith, length-append (part_of w).text.now (46 ∷ (part_of m).text.now), first.place, first.next, second.place)

  pub version_inside : end_of m - part.column ≤ length part.text.now
  version_inside = omega (arith, both_length, ap length both_lem, length-append both (mark ∷ rest.text.now))

  pub version_past : (field : Field) (v : ℕ × ℕ) → v ≡ (number_of w, number_of m) → (part_of field).column ≡ part.column
      → (part_of field).text.now ≡ take (end_of m - part.column) part.text.now → Past mark (version_part mark) v part field rest
  version_past field v is place text =
      let size : length both ≡ end_of m - part.column = omega (arith, both_length) in
      let same : (part_of field).text.now ≡ both =
      text ∙ ap (take (end_of m - part.column)) both_lem ∙ take_at both (mark ∷ rest.text.now) (end_of m - part.column) size in
      record {
        place = place;
        whole = both_lem ∙ ap (λ (l : List ℕ). l ++ mark ∷ rest.text.now) (sym same);
        next = omega (arith, second.next, place, ap length same, both_length);
        on = λ k.
            first.on (λ a. number mark (λ b. k (a, b))) ∙ second.on (λ b. k (number_of w, b))
            ∙ ap (λ (x : ℕ × ℕ). parse_part (k x) rest) (sym is);
      }

-- a level's word, and the byte after it, which the part has there or not
module _ (part : Part) (l : Level) (n mark : ℕ) (field : Field) (more : Part) (is : (part_of field).text.now ≡ word l) (cut : Split n part (part_of field) more) where
  level_to : (k : ℕ → Grammar) → parse_part (level_part mark k) part ≡ parse_part (byte mark (k (code l))) more
  level_to k =
      let far : part.column + length (word l) ≡ more.column = omega (arith, ap length is, cut.place, cut_end n part (part_of field) more cut) in
      ap (parse (level_part mark k) part.column) (cut_whole n part (part_of field) more cut ∙ ap (λ (t : List ℕ). t ++ more.text.now) is)
      ∙ level_on mark k part.column l more.text.now ∙ ap (λ (d : ℕ). parse (byte mark (k (code l))) d more.text.now) far

  pub level_stop : (fault : FormFault) → Passes mark more (Err fault) → (k : ℕ → Grammar) → parse_part (level_part mark k) part ≡ Err fault
  level_stop fault off k = level_to k ∙ off (k (code l))

  pub level_past : (rest : Part) → Passes mark more (Ok rest) → Past mark (level_part mark) (code l) part field rest
  level_past rest on = field_past n mark (level_part mark) (code l) part field more rest cut level_to on

-- the common bytes are no level's word
pub level_none : (s : List ℕ) (n mark c : ℕ) (part : List ℕ) → LevelBytes s n → part ≡ take n s → ((l : Level) → part ≡ word l → ⊥)
    → (k : ℕ → Grammar) → parse (level_part mark k) c s ≡ Err (fault_at (c + n))
level_none s n mark c part (inl (l, is)) text none k = absurd (none l (text ∙ is))
level_none s n mark c part (inr stops) text none k = stops mark c k
