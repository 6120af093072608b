mod UseLaws
