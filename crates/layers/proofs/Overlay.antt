-- A cache's lines laid over the rows below.
use Rattle.std.proofs.Common.{◌≡◌, ℕ, ◌+◌, ◌*◌, ◌/◌, ◌%◌, ◌<◌, ◌≤◌, Bool, cond, ◌≢◌, List, length, get_or, set, Some, None, Option, unwrap_or, sym, refl, ap, ◌∙◌, ⊎_elim, arith, length-set}
use Rattle.std.proofs.lemmas.List.FromFn.{get_or-map-range_with_len}
use Rattle.std.proofs.lemmas.List.{ext_get_or, get_or-set_same, get_or-set_other, get_or-replicate, set_past}
use Rattle.std.proofs.lemmas.Bool.{cases_eq, cases_lt, eq-eqb, ne_eqb}
use Rattle.catalogue.specs.declared.row.Row.{Row}
use Rattle.catalogue.specs.Rows.{blank, place as place_of, Placed, fetch_reply}
use Rattle.catalogue.proofs.Placed.{fetched_in, put_in, put_nowhere}
use Rattle.layers.specs.declared.cache.Line.{Line}
use Rattle.layers.specs.Lines.{row_of, line_of, cached, empty_lines, overlaid_row, overlaid, overlaid_full, written_back, evicted}

pub overlaid_at : (lines : List (Option Line)) (rows : List Row) (place : ℕ) → place < 512 → get_or (overlaid lines rows) place blank ≡ overlaid_row lines rows place
unfolding overlaid
overlaid_at lines rows place h = get_or-map-range_with_len (overlaid_row lines rows) 0 512 place place blank h (omega arith)

-- a line has the row of its own place and of no other
row_of_own : (l : Line) (place : ℕ) → l.tag ≡ place / 16 → row_of (Some l) place ≡ Some l.row
row_of_own l place e = ap (λ (b : Bool). cond b (Some l.row) None) (eq-eqb _ _ e)

row_of_other : (l : Line) (place : ℕ) → l.tag ≢ place / 16 → row_of (Some l) place ≡ None
row_of_other l place e = ap (λ (b : Bool). cond b (Some l.row) None) (ne_eqb _ _ e)

-- empty lines show what lies below
pub overlaid_empty : (rows : List Row) → length rows ≡ 512 → overlaid empty_lines rows ≡ rows
overlaid_empty rows full =
    ext_get_or blank (overlaid empty_lines rows) rows (overlaid_full empty_lines rows ∙ sym full)
    (λ q inside.
    let lt : q < 512 = omega (arith, overlaid_full empty_lines rows) in
    overlaid_at empty_lines rows q lt
    ∙ ap (λ (l : Option Line). unwrap_or (row_of l q) (get_or rows q blank)) (get_or-replicate 16 (q % 16) None None (omega arith)))

-- a fetch: from the line that has the row, or else from below
module _ (lines : List (Option Line)) (rows : List Row) (t r place : ℕ) (p : Placed t r place) where
  fetched_over : fetch_reply (overlaid lines rows) t r ≡ (0, Some (unwrap_or (cached lines place) (get_or rows place blank)))
  fetched_over =
      fetched_in t r (overlaid lines rows) p.table p.row
      ∙ ap (λ k. (0, Some (get_or (overlaid lines rows) k blank))) (sym p.is)
      ∙ ap (λ (x : Row). (0, Some x)) (overlaid_at lines rows place p.within)

  pub fetched_line : (x : Row) → Some x ≡ cached lines place → (0, Some x) ≡ fetch_reply (overlaid lines rows) t r
  fetched_line x e = ap (λ (o : Option Row). (0, Some (unwrap_or o (get_or rows place blank)))) e ∙ sym fetched_over

  pub fetched_below : None ≡ cached lines place → fetch_reply rows t r ≡ fetch_reply (overlaid lines rows) t r
  fetched_below e =
      fetched_in t r rows p.table p.row
      ∙ ap (λ k. (0, Some (get_or rows k blank))) (sym p.is)
      ∙ ap (λ (o : Option Row). (0, Some (unwrap_or o (get_or rows place blank)))) e
      ∙ sym fetched_over

module _ (lines : List (Option Line)) (rows rows' : List Row) (place : ℕ) (v : Row) (within : place < 512) (sixteen : length lines ≡ 16) where
  abbrev new : Line
  new = record { tag = place / 16; row = v }

  abbrev lines' : List (Option Line)
  lines' = set lines (place % 16) (Some new)

  -- below, the places of other lines are as they were, and those of this line as they were shown
  pub overlay_put :
      ((q : ℕ) → q < 512 → q % 16 ≢ place % 16 → get_or rows' q blank ≡ get_or rows q blank) →
      ((q : ℕ) → q < 512 → q % 16 ≡ place % 16 → q ≢ place → get_or rows' q blank ≡ unwrap_or (row_of (line_of lines place) q) (get_or rows q blank)) →
      overlaid lines' rows' ≡ set (overlaid lines rows) place v
  overlay_put others mine =
      ext_get_or blank _ _ (overlaid_full lines' rows' ∙ sym (length-set (overlaid lines rows) place v ∙ overlaid_full lines rows)) (λ q inside. at q (omega (arith, overlaid_full lines' rows')))
    where
      here : line_of lines' place ≡ Some new
      here = get_or-set_same lines (place % 16) (Some new) None (omega arith)

      same_line : (q : ℕ) → q < 512 → q ≢ place → q % 16 ≡ place % 16 → overlaid_row lines' rows' q ≡ overlaid_row lines rows q
      same_line q lt ne line =
          let far : place / 16 ≢ q / 16 = λ (z : place / 16 ≡ q / 16). ne (omega arith) in
          ap (λ (k : ℕ). unwrap_or (row_of (get_or lines' k None) q) (get_or rows' q blank)) line
          ∙ ap (λ (l : Option Line). unwrap_or (row_of l q) (get_or rows' q blank)) here
          ∙ ap (λ (o : Option Row). unwrap_or o (get_or rows' q blank)) (row_of_other new q far)
          ∙ mine q lt line ne
          ∙ ap (λ (k : ℕ). unwrap_or (row_of (get_or lines k None) q) (get_or rows q blank)) (sym line)

      other_line : (q : ℕ) → q < 512 → q % 16 ≢ place % 16 → overlaid_row lines' rows' q ≡ overlaid_row lines rows q
      other_line q lt line =
          ap (λ (l : Option Line). unwrap_or (row_of l q) (get_or rows' q blank)) (get_or-set_other lines (place % 16) (q % 16) (Some new) None line)
          ∙ ap (λ (r : Row). unwrap_or (cached lines q) r) (others q lt line)

      at : (q : ℕ) → q < 512 → get_or (overlaid lines' rows') q blank ≡ get_or (set (overlaid lines rows) place v) q blank
      at q lt =
          overlaid_at lines' rows' q lt
          ∙ ⊎_elim
          (λ (e : q ≡ place).
          ap (overlaid_row lines' rows') e
          ∙ ap (λ (l : Option Line). unwrap_or (row_of l place) (get_or rows' place blank)) here
          ∙ ap (λ (o : Option Row). unwrap_or o (get_or rows' place blank)) (row_of_own new place refl)
          ∙ sym (ap (λ (k : ℕ). get_or (set (overlaid lines rows) place v) k blank) e ∙ get_or-set_same (overlaid lines rows) place v blank (omega (arith, overlaid_full lines rows))))
          (λ (ne : q ≢ place).
          ⊎_elim (same_line q lt ne) (other_line q lt) (cases_eq (q % 16) (place % 16))
          ∙ sym (get_or-set_other (overlaid lines rows) place q v blank ne ∙ overlaid_at lines rows q lt))
          (cases_eq q place)

-- line k, once it has gone below
module _ (below : List Row) (full : length below ≡ 512) (k : ℕ) (line : k < 16) where
  abbrev old : Line → ℕ
  old l = l.tag * 16 + k

  goes : (l : Line) → written_back k (Some l) below ≡ set below (old l) l.row
  goes l =
      ⊎_elim
      (λ (small : old l < 512).
      let back : place_of (old l / 64) (old l % 64) ≡ old l = omega arith in
      put_in (old l / 64) (old l % 64) below l.row (omega arith) (omega arith) ∙ ap (λ k. set below k l.row) back)
      (λ (big : 512 ≤ old l).
      put_nowhere (old l / 64) (old l % 64) below l.row (omega arith) ∙ sym (set_past below (old l) l.row (omega arith)))
      (cases_lt (old l) 512)

  -- the places of other lines are as they were
  pub written_elsewhere : (l : Option Line) (q : ℕ) → q % 16 ≢ k → get_or (written_back k l below) q blank ≡ get_or below q blank
  written_elsewhere None q other = refl
  written_elsewhere (Some l) q other =
      let off : q ≢ old l = λ (z : q ≡ old l). other (omega arith) in
      ap (λ (r : List Row). get_or r q blank) (goes l) ∙ get_or-set_other below (old l) q l.row blank off

  -- those of this line are as they were shown
  pub written_there : (l : Option Line) (q : ℕ) → q < 512 → q % 16 ≡ k → get_or (written_back k l below) q blank ≡ unwrap_or (row_of l q) (get_or below q blank)
  written_there None q lt mine = refl
  written_there (Some l) q lt mine =
      ap (λ (r : List Row). get_or r q blank) (goes l)
      ∙ ⊎_elim
      (λ (z : q ≡ old l).
      let own : l.tag ≡ q / 16 = omega arith in
      ap (λ k. get_or (set below (old l) l.row) k blank) z
      ∙ get_or-set_same below (old l) l.row blank (omega arith)
      ∙ sym (ap (λ (o : Option Row). unwrap_or o (get_or below q blank)) (row_of_own l q own)))
      (λ (off : q ≢ old l).
      let far : l.tag ≢ q / 16 = λ (z : l.tag ≡ q / 16). off (omega arith) in
      get_or-set_other below (old l) q l.row blank off
      ∙ sym (ap (λ (o : Option Row). unwrap_or o (get_or below q blank)) (row_of_other l q far)))
      (cases_eq q (old l))

-- a line that makes room for a place
module _ (below : List Row) (full : length below ≡ 512) (place : ℕ) where
  stays : (l : Line) → l.tag ≡ place / 16 → evicted (Some l) place below ≡ below
  stays l own = ap (λ (b : Bool). cond b below (written_back (place % 16) (Some l) below)) (eq-eqb _ _ own)

  leaves : (l : Line) → l.tag ≢ place / 16 → evicted (Some l) place below ≡ written_back (place % 16) (Some l) below
  leaves l apart = ap (λ (b : Bool). cond b below (written_back (place % 16) (Some l) below)) (ne_eqb _ _ apart)

  -- the places of other lines are as they were
  pub evicted_elsewhere : (l : Option Line) (q : ℕ) → q % 16 ≢ place % 16 → get_or (evicted l place below) q blank ≡ get_or below q blank
  evicted_elsewhere None q other = refl
  evicted_elsewhere (Some l) q other =
      ⊎_elim
      (λ (own : l.tag ≡ place / 16). ap (λ (r : List Row). get_or r q blank) (stays l own))
      (λ (apart : l.tag ≢ place / 16).
      ap (λ (r : List Row). get_or r q blank) (leaves l apart) ∙ written_elsewhere below full (place % 16) (omega arith) (Some l) q other)
      (cases_eq l.tag (place / 16))

  -- those of this line are as they were shown
  pub evicted_there : (l : Option Line) (q : ℕ) → q < 512 → q % 16 ≡ place % 16 → q ≢ place → get_or (evicted l place below) q blank ≡ unwrap_or (row_of l q) (get_or below q blank)
  evicted_there None q lt mine ne = refl
  evicted_there (Some l) q lt mine ne =
      ⊎_elim
      (λ (own : l.tag ≡ place / 16).
      let far : l.tag ≢ q / 16 = λ (z : l.tag ≡ q / 16). ne (omega arith) in
      ap (λ (r : List Row). get_or r q blank) (stays l own)
      ∙ sym (ap (λ (o : Option Row). unwrap_or o (get_or below q blank)) (row_of_other l q far)))
      (λ (apart : l.tag ≢ place / 16).
      ap (λ (r : List Row). get_or r q blank) (leaves l apart) ∙ written_there below full (place % 16) (omega arith) (Some l) q lt mine)
      (cases_eq l.tag (place / 16))

-- a put into a line that has first made room
pub overlay_evicted : (lines : List (Option Line)) (rows : List Row) (place : ℕ) (v : Row) → place < 512 → length lines ≡ 16 → length rows ≡ 512 → overlaid (set lines (place % 16) (Some (record { tag = place / 16; row = v }))) (evicted (line_of lines place) place rows) ≡ set (overlaid lines rows) place v
overlay_evicted lines rows place v within sixteen full =
    overlay_put lines rows (evicted (line_of lines place) place rows) place v within sixteen (λ q _. evicted_elsewhere rows full place (line_of lines place) q) (evicted_there rows full place (line_of lines place))

-- the lines before k have gone below: there the rows are as they were shown, elsewhere as they were
pub record Flushed (lines : List (Option Line)) (rows below : List Row) (k : ℕ) : Type 0 where
  pub shown : (q : ℕ) → q < 512 → q % 16 < k → get_or below q blank ≡ overlaid_row lines rows q
  pub kept : (q : ℕ) → q < 512 → k ≤ q % 16 → get_or below q blank ≡ get_or rows q blank

pub flushed_none : (lines : List (Option Line)) (rows : List Row) → Flushed lines rows rows 0
flushed_none lines rows = record { shown = λ q _ l. absurd (omega arith); kept = λ q _ _. refl }

module _ (lines : List (Option Line)) (rows below : List Row) (k : ℕ) (line : k < 16) (full : length below ≡ 512) (so_far : Flushed lines rows below k) where
  abbrev after : List Row
  after = written_back k (get_or lines k None) below

  elsewhere : (q : ℕ) → q % 16 ≢ k → get_or after q blank ≡ get_or below q blank
  elsewhere q ne = written_elsewhere below full k line (get_or lines k None) q ne

  here : (q : ℕ) → q < 512 → q % 16 ≡ k → get_or after q blank ≡ overlaid_row lines rows q
  here q lt e =
      written_there below full k line (get_or lines k None) q lt e
      ∙ ap (λ (r : Row). unwrap_or (row_of (get_or lines k None) q) r) (so_far.kept q lt (omega arith))
      ∙ ap (λ n. unwrap_or (row_of (get_or lines n None) q) (get_or rows q blank)) (sym e)

  pub flushed_more : Flushed lines rows after (k + 1)
  flushed_more =
      record {
        shown = λ q lt l. ⊎_elim (here q lt) (λ (ne : q % 16 ≢ k). let less : q % 16 < k = omega arith in elsewhere q ne ∙ so_far.shown q lt less) (cases_eq (q % 16) k);
        kept = λ q lt l. let ne : q % 16 ≢ k = omega arith in elsewhere q ne ∙ so_far.kept q lt (omega arith);
      }

pub flushed_all : (lines : List (Option Line)) (rows below : List Row) (k : ℕ) → 16 ≤ k → length below ≡ 512 → Flushed lines rows below k → below ≡ overlaid lines rows
flushed_all lines rows below k all full f =
    ext_get_or blank below (overlaid lines rows) (full ∙ sym (overlaid_full lines rows))
    (λ q inside. let lt : q < 512 = omega (arith, full) in let less : q % 16 < k = omega arith in f.shown q lt less ∙ sym (overlaid_at lines rows q lt))
