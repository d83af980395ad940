-- An input has one expression and one graph, or one refusal. Assumes nothing.
use Rattle.std.proofs.Common.{◌≡◌, ℕ, ◌<◌, ◌≤◌, Bool, List, length, map, Some, None, Option, Ok, Err, refl, sym, ap, ap₂, ◌∙◌, arith}
use Rattle.std.proofs.Math.Path.{fun_ext}
use Rattle.std.proofs.lemmas.List.{length-map}
use Rattle.std.proofs.lemmas.Option.{slice_get-map}
use Rattle.std.specs.Option.{option_map}
use Rattle.std.specs.Prelude.{slice_get, ◌==◌}
use Rattle.std.specs.Str.{bytes_eq}
use Rattle.expressions.proofs.Judged.{decided_by}
use Rattle.expressions.specs.Exprs.{Expr}
use Rattle.expressions.specs.Wordings.{Worded, Refused as WordingRefused}
use Rattle.files.proofs.Walk.{one_refusal, no_refusal, one_book}
use Rattle.files.specs.Encoding.{raw_book}
use Rattle.files.specs.declared.counts.Counts.{Counts}
use Rattle.graphs.specs.Books.{book_of}
use Rattle.graphs.specs.Graphs.{Graph, both_same, value_at}
use Rattle.graphs.specs.Links.{read_among}
use Rattle.graphs.specs.declared.link.Link.{Link}
use Rattle.kinds.specs.Agreement.{day_known}
use Rattle.kinds.specs.Days.{day_bytes, day_number, same_day, year_of, month_of, date_of}
use Rattle.kinds.specs.Names.{text, same_name}
use Rattle.kinds.specs.declared.day.Day.{Day}
use Rattle.kinds.specs.declared.name.Name.{Name}
use Rattle.refusals.specs.declared.Refusal.{Refusal}
use Rattle.asking.specs.Answers.{Listed}
use Rattle.tables.specs.Layout.{cells_for}
use Rattle.asking.specs.Asking.{BookOf, BookIn, FileRefused, kind_in, RefusedAs, too_long, by_wording, by_file, by_room}
use Rattle.asking.specs.Input.{program_room, program_cells, wording, book_file, value_kind}
use Rattle.asking.specs.Kinds.{KindOfValue, kind_by}
use Rattle.asking.proofs.Kinded.{of_each}

-- sameness goes by what is encoded
abbrev ByEncoding : KindOfValue → Type 0
ByEncoding k = (x y v w : k.Value) → k.encoded x ≡ k.encoded v → k.encoded y ≡ k.encoded w → k.alike x y ≡ k.alike v w

-- then a file has one graph
module _ (k : KindOfValue) (known : ByEncoding k) where
  alike_options : (a b c d : Option k.Value) → option_map k.encoded a ≡ option_map k.encoded c
      → option_map k.encoded b ≡ option_map k.encoded d → both_same k.alike a b ≡ both_same k.alike c d
  alike_options None b None d e f = refl
  alike_options None b (Some v) d e f = absurd cc
  alike_options (Some x) b None d e f = absurd cc
  alike_options (Some x) None (Some v) None e f = refl
  alike_options (Some x) None (Some v) (Some w) e f = absurd cc
  alike_options (Some x) (Some y) (Some v) None e f = absurd cc
  alike_options (Some x) (Some y) (Some v) (Some w) e f =
      let first : k.encoded x ≡ k.encoded v = cc in
      let second : k.encoded y ≡ k.encoded w = cc in
      known x y v w first second

  same_at : (vs ws : List k.Value) → map k.encoded vs ≡ map k.encoded ws → (u : ℕ)
      → option_map k.encoded (value_at vs u) ≡ option_map k.encoded (value_at ws u)
  same_at vs ws e u = sym (slice_get-map k.encoded vs u) ∙ ap (λ ps. slice_get ps u) e ∙ slice_get-map k.encoded ws u

  abbrev graph : ℕ → (ℕ → ℕ → Bool) → List (Option Link) → Graph
  graph n s p = record { entries = n; same = s; places = p }

  abbrev sameness : List k.Value → ℕ → ℕ → Bool
  sameness vs u v = both_same k.alike (value_at vs u) (value_at vs v)

  one_graph : (vs ws : List k.Value) (ls ms : List Link) → raw_book k.encoded vs ls ≡ raw_book k.encoded ws ms
      → book_of k.alike vs ls ≡ book_of k.alike ws ms
  one_graph vs ws ls ms e =
      let payloads : map k.encoded vs ≡ map k.encoded ws = ap (λ b. b.payloads) e in
      let size : length vs ≡ length ws = sym (length-map vs k.encoded) ∙ ap length payloads ∙ length-map ws k.encoded in
      let at = same_at vs ws payloads in
      let same : sameness vs ≡ sameness ws = fun_ext (λ u. fun_ext (λ v. alike_options _ _ _ _ (at u) (at v))) in
      let places : map (read_among (length vs)) ls ≡ map (read_among (length ws)) ms =
      ap₂ (λ (n : ℕ) (l : List Link). map (read_among n) l) size (ap (λ b. b.links) e)
      in
      ap (λ n. graph n (sameness vs) (map (read_among (length vs)) ls)) size
      ∙ ap (λ s. graph (length ws) s (map (read_among (length vs)) ls)) same
      ∙ ap (λ p. graph (length ws) (sameness ws) p) places

  one_of : (room : Counts) (file : List ℕ) (g h : Graph) → BookOf k room file g → BookOf k room file h → g ≡ h
  one_of room file g h b c =
      let one = raw_book k.encoded b.values b.links in
      let other = raw_book k.encoded c.values c.links in
      let same = one_book k.shape room one other file b.fits c.fits b.is c.is in
      b.graph ∙ one_graph b.values c.values b.links c.links same ∙ sym c.graph

day_numbered : (x y : Day) → day_bytes x ≡ day_bytes y → day_number x ≡ day_number y
day_numbered x y e =
    let s = day_known x y e in
    let calendar : x.calendar ≡ y.calendar = s.calendar in
    let year : year_of x ≡ year_of y = s.year in
    let month : month_of x ≡ month_of y = s.month in
    let date : date_of x ≡ date_of y = s.date in
    cc

days_alike : (x y v w : Day) → day_bytes x ≡ day_bytes v → day_bytes y ≡ day_bytes w → same_day x y ≡ same_day v w
days_alike x y v w e f = ap₂ (λ (a b : ℕ). a == b) (day_numbered x v e) (day_numbered y w f)

names_alike : (x y v w : Name) → text x ≡ text v → text y ≡ text w → same_name x y ≡ same_name v w
names_alike x y v w e f = ap₂ bytes_eq e f

-- so it does of each kind of value that is read
known_by : (number : ℕ) → ByEncoding (kind_by number)
known_by number = of_each ByEncoding days_alike names_alike number

-- hence a file has one graph or one refusal
pub one_book_in : (file : List ℕ) (g h : Graph) → BookIn file g → BookIn file h → g ≡ h
one_book_in file g h x y = one_of (kind_in file) (known_by (value_kind file)) program_room file g h x y

not_both : (file : List ℕ) (x : Refusal) (g : Graph) → FileRefused file x → BookIn file g → ⊥
not_both file x g r b =
    let k = kind_in file in
    no_refusal k.shape program_room x (raw_book k.encoded b.values b.links) file r b.fits b.is

one_no_book : (file : List ℕ) (x y : Refusal) → FileRefused file x → FileRefused file y → x ≡ y
one_no_book file x y r s = one_refusal (kind_in file).shape program_room x y file r s

-- a wording has one expression or one refusal
pub one_expression : (t : List ℕ) (e f : Expr) → Worded t e → Worded t f → e ≡ f
one_expression t e f a b = b.means.only e a.means.stands

not_worded : (t : List ℕ) (x : Refusal) (e : Expr) → WordingRefused t x → Worded t e → ⊥
not_worded t x e r w =
    let a = (decided_by t (Err x) r).accepted e w.means.stands w.short w.few in
    let z : ◌≡◌ (Err x) (Ok a.0) = a.1 in
    absurd cc

one_unworded : (t : List ℕ) (x y : Refusal) → WordingRefused t x → WordingRefused t y → x ≡ y
one_unworded t x y r s = let z = (decided_by t (Err x) r).refused y s in cc

module _ (input : List ℕ) where
  -- so an input has one refusal
  pub refused_once : {x y : Refusal} {n at m to : ℕ} → RefusedAs input x n at → RefusedAs input y m to → x ≡ y
  refused_once (too_long a) (too_long b) = refl
  refused_once (too_long a) (by_wording h w) = absurd (omega arith)
  refused_once (too_long a) (by_file h w f) = absurd (omega arith)
  refused_once (too_long a) (by_room g h w b r) = absurd (omega arith)
  refused_once (by_wording h w) (too_long a) = absurd (omega arith)
  refused_once (by_wording h w) (by_wording k v) = one_unworded (wording input) _ _ w v
  refused_once (by_wording h w) (by_file k v f) = absurd (not_worded (wording input) _ _ w v)
  refused_once (by_wording h w) (by_room g k v b r) = absurd (not_worded (wording input) _ _ w v)
  refused_once (by_file h w f) (too_long a) = absurd (omega arith)
  refused_once (by_file h w f) (by_wording k v) = absurd (not_worded (wording input) _ _ v w)
  refused_once (by_file h w f) (by_file k v d) = one_no_book (book_file input) _ _ f d
  refused_once (by_file h w f) (by_room g k v b r) = absurd (not_both (book_file input) _ g f b)
  refused_once (by_room g h w b r) (too_long a) = absurd (omega arith)
  refused_once (by_room g h w b r) (by_wording k v) = absurd (not_worded (wording input) _ _ v w)
  refused_once (by_room g h w b r) (by_file k v f) = absurd (not_both (book_file input) _ g f b)
  refused_once (by_room g h w b r) (by_room i k v c s) = refl

  enough : (e f : Expr) (g h : Graph) → e ≡ f → g ≡ h → program_cells < cells_for e g.entries
      → cells_for f h.entries ≤ program_cells → ⊥
  enough e f g h x y a b = let z : cells_for e g.entries ≡ cells_for f h.entries = ap₂ (λ (e : Expr) (g : Graph). cells_for e g.entries) x y in omega arith

  -- and none where there are lines
  pub listed_accepted : {lines : List ℕ} {x : Refusal} {n at : ℕ} → Listed input lines → RefusedAs input x n at → ⊥
  listed_accepted l (too_long a) = let h = l.short in omega arith
  listed_accepted l (by_wording h w) = not_worded (wording input) _ _ w l.worded
  listed_accepted l (by_file h w f) = not_both (book_file input) _ l.graph f l.book
  listed_accepted l (by_room {e} g h w b r) =
      let expr = one_expression (wording input) e l.expr w l.worded in
      let graph = one_book_in (book_file input) g l.graph b l.book in
      enough e l.expr g l.graph expr graph r l.room
