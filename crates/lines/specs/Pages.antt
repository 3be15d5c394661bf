-- What is on a page once bytes are written onto it.
use Rattle.std.specs.Prelude.{◌≡◌, ℕ, List}
use Rattle.lines.specs.Laid.{Put}
use Rattle.lines.specs.declared.Page.{Page}

-- the bytes were written onto the page at its place
pub record Adds (bytes : List ℕ) (page page' : Page) : Type 0 where
  pub same_reference : page'.out.ghost_name ≡ page.out.ghost_name
  pub put : Put page.at bytes page.out.now page'.out.now page'.at
