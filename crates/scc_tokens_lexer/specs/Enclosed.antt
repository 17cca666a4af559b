-- Where what a mark opened is closed again (C++, "String literals", "Character literals", "Comments").
use Rattle.std.specs.Prelude.{ℕ, ◌+◌, List, [], ◌∷◌, Bool, ◌&&◌, not, ◌==◌, if◌then◌else◌, Option, Some, None, option_map}

-- how many bytes there are up to and with the first quote on this line that no backslash keeps
abbrev pub text_end : ℕ → Bool → List ℕ → Option ℕ
text_end quote kept [] = None
text_end quote kept (b ∷ bs) =
    if b == 10 then None
    else if not kept && b == quote then Some 1
    else option_map (λ n. n + 1) (text_end quote (not kept && b == 92) bs)

-- how many bytes there are up to and with the first `*/`, where `star` says whether a `*` stands before them
abbrev pub comment_end : Bool → List ℕ → Option ℕ
comment_end star [] = None
comment_end star (b ∷ bs) = if star && b == 47 then Some 1 else option_map (λ n. n + 1) (comment_end (b == 42) bs)
