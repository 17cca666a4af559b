-- The names that are declared so far: a name of a type, and of a class template, is one from its declaration on to the end of the text.
use Rattle.std.specs.Prelude.{ℕ, Bool, ◌&&◌, ◌==◌, List, [], ◌∷◌, ◌++◌, if◌then◌else◌}
use Rattle.std.specs.List.{list_any}
use Rattle.scc_base.specs.declared.names.Name.{Name}

pub record Names : Type 0 where
  -- classes, class templates, enumerations, type definitions and type parameters
  pub types : List ℕ
  -- class templates
  pub templates : List ℕ

abbrev pub no_names : Names
no_names = record { types = []; templates = [] }

abbrev pub has : List ℕ → ℕ → Bool
has names x = list_any (λ y. y == x) names

-- an identifier that stands for a type
abbrev pub is_type : Names → Name → Bool
is_type names x = has names.types x.0

-- a type that may have arguments
abbrev pub is_template : Names → Name → Bool
is_template names x = is_type names x && has names.templates x.0

-- a list with one name more, behind the others
abbrev pub added : List ℕ → ℕ → List ℕ
added names x = if has names x then names else (names ++ x ∷ [])

abbrev pub with_type : Names → Name → Names
with_type names x = record { types = added names.types x.0; templates = names.templates }

abbrev pub with_template : Names → Name → Names
with_template names x = record { types = added names.types x.0; templates = added names.templates x.0 }
