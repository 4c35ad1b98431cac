-- What a log keeps, as one call more enters it.
use Rattle.std.proofs.Common.{◌≡◌, ◌++◌, ◌∷◌, [], ℕ, suc, zero, ◌+◌, ◌≤◌, ◌<◌, List, length, map, take, min, sym, refl, ap, ◌∙◌, arith}
use Rattle.std.proofs.lemmas.List.{map-append, append-nil, append_assoc, length-append, length-take, take_all, take-append-le}
use Rattle.relay_tasks.specs.declared.log.LogEntry.{LogEntry}
use Rattle.relay_tasks.specs.declared.log_line.LogLine.{LogLine}
use Rattle.relay_tasks.specs.Log.{delays_of, line_of, lines_of, list_of, most_lines}

-- the first of a front and one more are those of the whole and one more
take_on : {A : Type 0} (n : ℕ) (xs : List A) (x : A)
    → take n (take n xs ++ x ∷ []) ≡ take n (xs ++ x ∷ [])
take_on zero xs x = refl
take_on (suc n) [] x = refl
take_on (suc n) (y ∷ ys) x = ap (λ l. y ∷ l) (take_on n ys x)

-- the lines with one call more
pub lines_on : (log : List LogEntry) (e : LogEntry)
    → take most_lines (lines_of log ++ line_of e ∷ []) ≡ lines_of (log ++ e ∷ [])
lines_on log e =
    take_on most_lines (map line_of log) (line_of e)
    ∙ ap (take most_lines) (sym (map-append line_of log (e ∷ [])))

-- the delays with one call more
pub delays_on : (log : List LogEntry) (e : LogEntry)
    → delays_of log ++ list_of e.delay ≡ delays_of (log ++ e ∷ [])
delays_on [] e = sym (append-nil (list_of e.delay))
delays_on (x ∷ xs) e =
    append_assoc (list_of x.delay) (delays_of xs) (list_of e.delay)
    ∙ ap (λ l. list_of x.delay ++ l) (delays_on xs e)

-- a log keeps so many lines at most
pub few_lines : (log : List LogEntry) → length (lines_of log) ≤ most_lines
few_lines log =
    let n : length (lines_of log) ≡ min most_lines (length (map line_of log)) =
    length-take most_lines (map line_of log) in
    omega arith

-- a line more where one may be kept
pub line_more : (lines : List LogLine) (line : LogLine) → length lines < most_lines
    → lines ++ line ∷ [] ≡ take most_lines (lines ++ line ∷ [])
line_more lines line few =
    let n : length (lines ++ line ∷ []) ≡ length lines + 1 = length-append lines (line ∷ []) in
    sym (take_all most_lines (lines ++ line ∷ []) (omega arith))

-- and none where none may
pub line_left : (lines : List LogLine) (line : LogLine) → length lines ≤ most_lines
    → most_lines ≤ length lines → lines ≡ take most_lines (lines ++ line ∷ [])
line_left lines line few full =
    sym (take-append-le most_lines lines (line ∷ []) full ∙ take_all most_lines lines few)
