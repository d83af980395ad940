-- The parts of an expression stand for it. Assumes nothing.
use Rattle.std.proofs.Common.{◌≡◌, ℕ, zero, suc, ◌+◌, ◌-◌, ◌<◌, true, ◌&&◌, add-zero, List, [], ◌∷◌, ◌++◌, length, get_or, sym, refl, ap, ◌∙◌, subst, append_assoc, append-nil, arith, length-append}
use Rattle.std.proofs.lemmas.List.{get_or_append_left, get_or_at}
use Rattle.std.proofs.lemmas.Bool.Decides.{nat_tests}
use Rattle.std.proofs.lemmas.Bool.{and_parts}
use Rattle.expressions.specs.declared.part.Part.{Part}
use Rattle.expressions.specs.declared.part.Part.TheVariants.{Epsilon, Letter, Either, Join, Plus, Star, Same, Differ}
use Rattle.expressions.specs.Exprs.{Expr, epsilon, letter, either, join, plus, star, same, differ, size}
use Rattle.expressions.specs.Grammar.{Sign, plus_sign, star_sign, same_sign, differ_sign, signed}
use Rattle.expressions.specs.Numbering.{parts_from, expr_at, made, exprs_after, part_expr, stands_on, well_formed}

pub length-parts : (k : ℕ) (e : Expr) → length (parts_from k e) ≡ size e
unfolding parts_from
length-parts k epsilon = refl
length-parts k (letter c) = refl
length-parts k (either a b) = simp length-append (omega (arith, length-parts k a, length-parts (k + size a) b))
length-parts k (join a b) = simp length-append (omega (arith, length-parts k a, length-parts (k + size a) b))
length-parts k (plus a) = simp length-append (omega (arith, length-parts k a))
length-parts k (star a) = simp length-append (omega (arith, length-parts k a))
length-parts k (same a) = simp length-append (omega (arith, length-parts k a))
length-parts k (differ a) = simp length-append (omega (arith, length-parts k a))

-- the part of a sign
abbrev pub part : Sign → Part
part plus_sign = Plus
part star_sign = Star
part same_sign = Same
part differ_sign = Differ

pub parts_sign : (k : ℕ) (e : Expr) (s : Sign) → parts_from k (signed s e) ≡ parts_from k e ++ (part s ∷ [])
unfolding parts_from
parts_sign k e plus_sign = refl
parts_sign k e star_sign = refl
parts_sign k e same_sign = refl
parts_sign k e differ_sign = refl

-- the expressions of the parts within an expression, before its own
pub inside : Expr → List Expr
inside epsilon = []
inside (letter c) = []
inside (either a b) = (inside a ++ (a ∷ [])) ++ (inside b ++ (b ∷ []))
inside (join a b) = (inside a ++ (a ∷ [])) ++ (inside b ++ (b ∷ []))
inside (plus a) = inside a ++ (a ∷ [])
inside (star a) = inside a ++ (a ∷ [])
inside (same a) = inside a ++ (a ∷ [])
inside (differ a) = inside a ++ (a ∷ [])

abbrev pub all : Expr → List Expr
all e = inside e ++ (e ∷ [])

length-inside : (e : Expr) → length (inside e) + 1 ≡ size e
unfolding inside
length-inside epsilon = refl
length-inside (letter c) = refl
length-inside (either a b) = simp length-append (omega (arith, length-inside a, length-inside b))
length-inside (join a b) = simp length-append (omega (arith, length-inside a, length-inside b))
length-inside (plus a) = simp length-append (omega (arith, length-inside a))
length-inside (star a) = simp length-append (omega (arith, length-inside a))
length-inside (same a) = simp length-append (omega (arith, length-inside a))
length-inside (differ a) = simp length-append (omega (arith, length-inside a))

pub some : (e : Expr) → 0 < size e
some e = omega (arith, length-inside e)

-- the last of the expressions of an expression is itself, wherever they stand
last_is : (es : List Expr) (e : Expr) (more : List Expr) (k : ℕ) → k ≡ length es + size e - 1 → expr_at ((es ++ all e) ++ more) k ≡ e
last_is es e more k h =
    let n : length (es ++ inside e) ≡ k = length-append es (inside e) ∙ omega (arith, length-inside e) in
    simp append_assoc (simp append_assoc at (get_or_at (es ++ inside e) e more epsilon k n))

-- a part that is made of the one before, and one that is made of two
one_more : (es : List Expr) (a : Expr) → expr_at (es ++ all a) (length (es ++ all a) - 1) ≡ a
one_more es a = rw append-nil at (last_is es a [] (length (es ++ all a) - 1) (simp length-append (omega (arith, length-inside a))))

two_more : (es : List Expr) (a b : Expr) (k : ℕ) → k ≡ length es → expr_at ((es ++ all a) ++ all b) (k + size a - 1) ≡ a
two_more es a b k e = last_is es a (all b) (k + size a - 1) (rw e refl)

after_one : (es : List Expr) (a : Expr) (f : Expr → Expr) (P : List Part) → exprs_after ((es ++ all a) ++ (f (expr_at (es ++ all a) (length (es ++ all a) - 1)) ∷ [])) P ≡ exprs_after (es ++ (all a ++ (f a ∷ []))) P
after_one es a f P = rw (one_more es a, append_assoc es)

after_two : (es : List Expr) (k : ℕ) (a b : Expr) (f : Expr → Expr → Expr) (P : List Part) → k ≡ length es → exprs_after (((es ++ all a) ++ all b) ++ (f (expr_at ((es ++ all a) ++ all b) (k + size a - 1)) (expr_at ((es ++ all a) ++ all b) (length ((es ++ all a) ++ all b) - 1)) ∷ [])) P ≡ exprs_after (es ++ ((all a ++ all b) ++ (f a b ∷ []))) P
after_two es k a b f P e =
    rw (two_more es a b k e, one_more (es ++ all a) b) (simp append_assoc)

pub exprs_after_lem : (es : List Expr) (k : ℕ) (e : Expr) (P : List Part) → k ≡ length es → exprs_after es (parts_from k e ++ P) ≡ exprs_after (es ++ all e) P
unfolding parts_from exprs_after inside
exprs_after_lem es k epsilon P h = refl
exprs_after_lem es k (letter c) P h = refl
exprs_after_lem es k (either a b) P h =
    let n : k + size a ≡ length (es ++ all a) = simp length-append (omega (arith, length-inside a)) in
    let x : Part = Either (k + size a - 1) in
    rw (append_assoc (parts_from k a), append_assoc (parts_from (k + size a) b))
    (exprs_after_lem es k a (parts_from (k + size a) b ++ (x ∷ P)) h ∙ exprs_after_lem (es ++ all a) (k + size a) b (x ∷ P) n ∙ after_two es k a b either P h)
exprs_after_lem es k (join a b) P h =
    let n : k + size a ≡ length (es ++ all a) = simp length-append (omega (arith, length-inside a)) in
    let x : Part = Join (k + size a - 1) in
    rw (append_assoc (parts_from k a), append_assoc (parts_from (k + size a) b))
    (exprs_after_lem es k a (parts_from (k + size a) b ++ (x ∷ P)) h ∙ exprs_after_lem (es ++ all a) (k + size a) b (x ∷ P) n ∙ after_two es k a b join P h)
exprs_after_lem es k (plus a) P h = rw (append_assoc (parts_from k a)) (exprs_after_lem es k a (Plus ∷ P) h ∙ after_one es a plus P)
exprs_after_lem es k (star a) P h = rw (append_assoc (parts_from k a)) (exprs_after_lem es k a (Star ∷ P) h ∙ after_one es a star P)
exprs_after_lem es k (same a) P h = rw (append_assoc (parts_from k a)) (exprs_after_lem es k a (Same ∷ P) h ∙ after_one es a same P)
exprs_after_lem es k (differ a) P h = rw (append_assoc (parts_from k a)) (exprs_after_lem es k a (Differ ∷ P) h ∙ after_one es a differ P)

-- the last part of an expression stands for it
pub decodes : (e : Expr) → part_expr (parts_from 0 e) (size e - 1) ≡ e
unfolding exprs_after
decodes e =
    let p : exprs_after [] (parts_from 0 e) ≡ all e = rw append-nil at (exprs_after_lem [] 0 e [] refl) in
    ap (λ l. expr_at l (size e - 1)) p ∙ get_or_at (inside e) e [] epsilon (size e - 1) (omega (arith, length-inside e))

-- the parts of an expression are made of parts before them
formed_append : (q : ℕ) (xs ys : List Part) → well_formed q (xs ++ ys) ≡ (well_formed q xs && well_formed (q + length xs) ys)
formed_append q [] ys = rw add-zero
formed_append q (x ∷ xs) ys = grind (arith, formed_append (q + 1) xs ys)

pub formed_parts : (q : ℕ) (e : Expr) → well_formed q (parts_from q e) ≡ true
unfolding parts_from
formed_parts q epsilon = refl
formed_parts q (letter c) = refl
formed_parts q (either a b) = grind (arith, nat_tests, formed_append, length-parts, formed_parts q a, formed_parts (q + size a) b, some a, some b)
formed_parts q (join a b) = grind (arith, nat_tests, formed_append, length-parts, formed_parts q a, formed_parts (q + size a) b, some a, some b)
formed_parts q (plus a) = grind (arith, nat_tests, formed_append, length-parts, formed_parts q a, some a)
formed_parts q (star a) = grind (arith, nat_tests, formed_append, length-parts, formed_parts q a, some a)
formed_parts q (same a) = grind (arith, nat_tests, formed_append, length-parts, formed_parts q a, some a)
formed_parts q (differ a) = grind (arith, nat_tests, formed_append, length-parts, formed_parts q a, some a)

-- what is stored at each number
kept_before : (es : List Expr) (xs : List Part) (i : ℕ) → i < length es → expr_at (exprs_after es xs) i ≡ expr_at es i
unfolding exprs_after
kept_before es [] i h = refl
kept_before es (x ∷ xs) i h =
    let y : Expr = made (expr_at es) (length es) x in
    kept_before (es ++ (y ∷ [])) xs i (simp length-append (omega arith)) ∙ get_or_append_left es (y ∷ []) epsilon i h

made_same : (f h : ℕ → Expr) (q : ℕ) (x : Part) → stands_on q x ≡ true → ((i : ℕ) → i < q → f i ≡ h i) → made f q x ≡ made h q x
made_same f h q Epsilon s e = refl
made_same f h q (Letter c) s e = refl
made_same f h q (Either l) s e = grind (arith, nat_tests, e l, e (q - 1))
made_same f h q (Join l) s e = grind (arith, nat_tests, e l, e (q - 1))
made_same f h q Plus s e = grind (arith, nat_tests, e (q - 1))
made_same f h q Star s e = grind (arith, nat_tests, e (q - 1))
made_same f h q Same s e = grind (arith, nat_tests, e (q - 1))
made_same f h q Differ s e = grind (arith, nat_tests, e (q - 1))

made_at : (es : List Expr) (xs : List Part) (j : ℕ) → j < length xs → well_formed (length es) xs ≡ true → expr_at (exprs_after es xs) (length es + j) ≡ made (expr_at (exprs_after es xs)) (length es + j) (get_or xs j Epsilon)
unfolding exprs_after
made_at es [] j h f = absurd (omega arith)
made_at es (x ∷ xs) zero h f =
    let y : Expr = made (expr_at es) (length es) x in
    let s = (and_parts (stands_on (length es) x) (well_formed (length es + 1) xs) f).0 in
    let n : length es + 0 ≡ length es = omega arith in
    rw n
    (kept_before (es ++ (y ∷ [])) xs (length es) (simp length-append (omega arith)) ∙ get_or_at es y [] epsilon (length es) refl
    ∙ made_same (expr_at es) (expr_at (exprs_after (es ++ (y ∷ [])) xs)) (length es) x s (λ i lt. sym (kept_before (es ++ (y ∷ [])) xs i (simp length-append (omega arith)) ∙ get_or_append_left es (y ∷ []) epsilon i lt)))
made_at es (x ∷ xs) (suc j) h f =
    let y : Expr = made (expr_at es) (length es) x in
    let s = (and_parts (stands_on (length es) x) (well_formed (length es + 1) xs) f).1 in
    let n : length (es ++ (y ∷ [])) ≡ length es + 1 = length-append es (y ∷ []) in
    let m : length (es ++ (y ∷ [])) + j ≡ length es + suc j = omega arith in
    rw (← m) (made_at (es ++ (y ∷ [])) xs j (omega arith) (rw n s))

pub part_made : (parts : List Part) (q : ℕ) → q < length parts → well_formed 0 parts ≡ true → part_expr parts q ≡ made (part_expr parts) q (get_or parts q Epsilon)
part_made parts q h f = subst (λ k. expr_at (exprs_after [] parts) k ≡ made (expr_at (exprs_after [] parts)) k (get_or parts q Epsilon)) (omega arith) (made_at [] parts q h f)

pub stands : (q k : ℕ) (parts : List Part) → well_formed q parts ≡ true → k < length parts → stands_on (q + k) (get_or parts k Epsilon) ≡ true
stands q k [] f h = absurd (omega arith)
stands q zero (x ∷ xs) f h = subst (λ j. stands_on j x ≡ true) (omega arith) (and_parts (stands_on q x) (well_formed (q + 1) xs) f).0
stands q (suc k) (x ∷ xs) f h = subst (λ j. stands_on j (get_or xs k Epsilon) ≡ true) (omega arith) (stands (q + 1) k xs (and_parts (stands_on q x) (well_formed (q + 1) xs) f).1 (omega arith))

-- a part of an expression stands on parts before it
pub part_stands : (parts : List Part) (q : ℕ) → well_formed 0 parts ≡ true → q < length parts → stands_on q (get_or parts q Epsilon) ≡ true
part_stands parts q f h = subst (λ k. stands_on k (get_or parts q Epsilon) ≡ true) (omega arith) (stands 0 q parts f h)
