-- The parts of the web page: the request target, the content type and the bytes of each part.
use Rattle.std.specs.Prelude.{ℕ, List, [], ◌∷◌, Option, codes}
use Rattle.std.specs.List.{find}
use Rattle.std.specs.Str.{bytes_eq}
use Rattle.web_page.specs.declared.parts.PagePart.{PagePart}
use Rattle.web_page.specs.declared.parts.PagePart.TheVariants.{Page, Style, Script, Icon}
use Rattle.web_page.specs.declared.files.TheConstants.{PAGE, STYLE, SCRIPT, ICON}

-- All parts of the web page.
abbrev pub parts : List PagePart
parts = Page ∷ Style ∷ Script ∷ Icon ∷ []

-- The request target of each part of the web page.
abbrev pub target_of : PagePart → List ℕ
target_of Page = codes "/"
target_of Style = codes "/page.css"
target_of Script = codes "/page.js"
target_of Icon = codes "/icon.svg"

-- The part of the web page with this request target, or None. Targets are compared byte by byte.
abbrev pub part_of : (target : List ℕ) → Option PagePart
part_of target = find (λ part. bytes_eq target (target_of part)) parts

-- The value of the Content-Type header for each part of the web page. It contains the character
-- encoding, except for the icon.
abbrev pub content_type_of : PagePart → List ℕ
content_type_of Page = codes "text/html; charset=utf-8"
content_type_of Style = codes "text/css; charset=utf-8"
content_type_of Script = codes "text/javascript; charset=utf-8"
content_type_of Icon = codes "image/svg+xml"

-- The bytes of each part of the web page, which are those of its file in `web/`.
abbrev pub body_of : PagePart → List ℕ
body_of Page = PAGE.now
body_of Style = STYLE.now
body_of Script = SCRIPT.now
body_of Icon = ICON.now
