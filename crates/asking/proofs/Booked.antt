-- The book that was read from a file. Assumes nothing.
use Rattle.std.proofs.Common.{◌≡◌, ℕ, Bool, List, take, refl, subst}
use Rattle.files.specs.Books.{room_of, Held}
use Rattle.files.specs.Encoding.{raw_book, Fits}
use Rattle.files.specs.declared.counts.Counts.{Counts}
use Rattle.graphs.specs.Books.{book_of}
use Rattle.graphs.specs.declared.link.Link.{Link}
use Rattle.kinds.specs.Payloads.{Shape}
use Rattle.asking.specs.Asking.{BookOf}
use Rattle.asking.specs.Kinds.{kept_as}

pub book_read : {V : Type 0} (sh : Shape) (encoded : V → List ℕ) (decoded : List ℕ → V) (alike : V → V → Bool)
    (file : List ℕ) (es es' : List V) (ls ls' : List Link) (n room : Counts)
    → Held sh encoded decoded file es es' ls ls' n → room_of es ls ≡ room
    → BookOf (kept_as sh encoded alike) room file (book_of alike (take n.entries es') (take n.links ls'))
book_read sh encoded decoded alike file es es' ls ls' n room h e = record {
  values = take n.entries es';
  links = take n.links ls';
  is = h.file;
  fits = subst (λ r. Fits sh r (raw_book encoded (take n.entries es') (take n.links ls'))) e h.fits;
  graph = refl;
}
